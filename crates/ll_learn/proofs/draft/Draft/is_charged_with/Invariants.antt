use Rattle.std.proofs.Common.{◌≡◌, ◌<◌, ℕ, true}
use Rattle.std.specs.List.{list_any}
use Rattle.ll_learn.specs.Draft.{has, is_charge}
use Rattle.ll_learn.proofs.draft.Draft.is_charged_with.Given as goal

-- so far
abbrev pub invariant-loop-inode : goal.invariant-loop-inode
invariant-loop-inode l = (inode : ℕ) → inode < l.inode → has l.self l.right inode ≡ true
    → list_any (is_charge l.scope l.right inode) l.needs.asks.items ≡ true
