use Rattle.ll_laws.specs.declared.step.Step.TheVariants.{Begin}
use Rattle.ll_steps.proofs.Reasons.{because}
use Rattle.ll_steps.proofs.ReasonsFound.{begins_not}
use Rattle.ll_steps.proofs.reason.of_begin.Goals as goal

pub returns-in-Err : goal.returns-in-Err
returns-in-Err c = because c.args.journal.now.world (Begin c.args.client c.args.call.now) c.in-Err.unmet
    (begins_not c.args.journal.now.world c.args.client c.args.call.now c.in-Err.unmet c.in-Err.ensures.err)
