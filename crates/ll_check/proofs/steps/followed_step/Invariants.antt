use Rattle.std.proofs.Common.{◌<◌, ℕ}
use Rattle.ll_check.specs.Steps.{SpellsStepAt}
use Rattle.ll_check.specs.declared.steps.StepTest.{StepTest}
use Rattle.ll_check.proofs.steps.followed_step.Given as goal

-- no step ends before this place
abbrev pub invariant-loop-place : goal.invariant-loop-place
invariant-loop-place l = (place : ℕ) (test : StepTest) → place < l.place → SpellsStepAt l.body place test → ⊥
