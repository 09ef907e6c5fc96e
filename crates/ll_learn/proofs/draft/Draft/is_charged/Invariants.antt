use Rattle.std.proofs.Common.{◌≡◌, ◌<◌, ℕ, true}
use Rattle.std.specs.List.{list_any}
use Rattle.ll_learn.specs.Draft.{has, is_charge}
use Rattle.ll_learn.proofs.draft.Draft.is_charged.Given as goal

-- so far
abbrev pub invariant-loop-right : goal.invariant-loop-right
invariant-loop-right l = (inode right : ℕ) → right < l.right-index → has l.self right inode ≡ true
    → list_any (is_charge l.scope right inode) l.needs.asks.items ≡ true
