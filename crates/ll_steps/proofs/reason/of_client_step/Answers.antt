use Rattle.ll_seq.specs.Step.{client_of}
use Rattle.ll_laws.specs.World.{is_alone, shown}
use Rattle.ll_laws.specs.declared.step.Step.TheVariants.{ClientStep}
use Rattle.ll_steps.proofs.Reasons.{because}
use Rattle.ll_steps.proofs.reason.of_client_step.Goals as goal

pub returns-in-Err : goal.returns-in-Err
returns-in-Err c =
    let w = c.args.journal.now.world in
    because w (ClientStep c.args.client c.args.call.now) c.in-Err.unmet (c.in-Err.ensures.err c.args.call.now
    (is_alone (client_of (shown w) c.args.client) c.args.call.now))
