use Rattle.std.proofs.Common.{◌≢◌, ◌<◌, ℕ}
use Rattle.ll_rights.specs.Right.{right_text}
use Rattle.ll_rights.proofs.right.Right.parse.Given as goal

abbrev pub invariant-loop-right : goal.invariant-loop-right
invariant-loop-right l = (right : ℕ) → right < l.right-index → l.text ≢ right_text right
