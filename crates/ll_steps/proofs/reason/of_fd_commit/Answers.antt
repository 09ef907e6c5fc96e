use Rattle.ll_seq.specs.Step.{client_of}
use Rattle.ll_laws.specs.World.{is_on_descriptor, shown}
use Rattle.ll_laws.specs.declared.step.Step.TheVariants.{FdCommit}
use Rattle.ll_steps.proofs.Reasons.{because}
use Rattle.ll_steps.proofs.reason.of_fd_commit.Goals as goal

pub returns-in-Err : goal.returns-in-Err
returns-in-Err c =
    let w = c.args.journal.now.world in
    because w (FdCommit c.args.client c.args.call.now) c.in-Err.unmet (c.in-Err.ensures.err c.args.call.now
    (is_on_descriptor (client_of (shown w) c.args.client) c.args.call.now))
