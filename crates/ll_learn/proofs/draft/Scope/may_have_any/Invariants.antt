use Rattle.std.proofs.Common.{◌≡◌, ◌<◌, ℕ}
use Rattle.std.specs.Prelude.{false}
use Rattle.ll_learn.specs.Draft.{may_have}
use Rattle.ll_learn.proofs.draft.Scope.may_have_any.Given as goal

-- none so far
abbrev pub invariant-loop-right : goal.invariant-loop-right
invariant-loop-right l = (right : ℕ) → right < l.right-index → may_have l.self right l.inode ≡ false
