use Rattle.ll_check.proofs.StepLines.{no_test_at, none_carried}
use Rattle.ll_check.proofs.steps.step_test_at.Goals as goal

pub returns-clause-none : goal.returns-clause-none
returns-clause-none c =
    none_carried c.test_by.result
    (no_test_at c.args.body.now c.split_at.result.0.now c.split_at.result.1.now c.in-Some.told.now c.args.place
    c.split_at.ensures.front c.split_at.ensures.back c.in-Some.ensures.found) c.test_by.ensures.none
