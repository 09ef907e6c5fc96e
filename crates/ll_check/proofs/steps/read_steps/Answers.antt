use Rattle.std.proofs.Common.{◌≡◌, ◌+◌, ◌++◌, ◌∷◌, [], length, arith, List, subst, sym}
use Rattle.std.proofs.lemmas.List.{length-append}
use Rattle.ll_check.specs.Steps.{AreSteps}
use Rattle.ll_check.specs.declared.steps.StepTest.{StepTest}
use Rattle.ll_check.proofs.StepLines.{steps_more}
use Rattle.ll_check.proofs.Told.{cut_on}
use Rattle.ll_check.proofs.steps.read_steps.Goals as goal

pub loop-rest-preserved : goal.loop-rest-preserved
loop-rest-preserved c =
    let i = c.loop-rest.invariant in
    let line = c.split_line.result.0.now in
    let own = c.in_default.ensures.ok in
    let long : length (i.0 ++ line ∷ []) ≡ length i.0 + 1 = length-append i.0 (line ∷ []) in (
      i.0 ++ line ∷ [],
      cut_on _ i.0 _ _ line i.1 c.split_line.ensures.first,
      subst (λ (x : List StepTest). AreSteps 1 (i.0 ++ line ∷ []) x) (sym own.1)
          (steps_more 1 i.0 line (c.loop-rest.number + 1) c.loop-rest.tests.items own.0 i.2 (omega (arith, i.3)) own.2),
      omega (arith, long, i.3),
      omega (arith, i.4, c.split_line.ensures.shorter),
    )
