use Rattle.std.proofs.Common.{◌<◌, ℕ}
use Rattle.ll_check.specs.Checks.{SpellsAt}
use Rattle.ll_check.specs.declared.check_text.Test.{Test}
use Rattle.ll_check.proofs.check_text.followed_test.Given as goal

-- no command ends before this place
abbrev pub invariant-loop-place : goal.invariant-loop-place
invariant-loop-place l = (place : ℕ) (test : Test) → place < l.place → SpellsAt l.body place test → ⊥
