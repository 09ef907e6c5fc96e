use Rattle.ll_check.proofs.StepLines.{no_step_test}
use Rattle.ll_check.proofs.steps.step_test_of.Goals as goal

pub returns-in-None-clause-none : goal.returns-in-None-clause-none
returns-in-None-clause-none c =
    no_step_test c.args.body.now (rw c.in-None.is at c.in_ok-step.ensures)
    (rw c.in_default.is at c.in_ok-followed.ensures.none)
