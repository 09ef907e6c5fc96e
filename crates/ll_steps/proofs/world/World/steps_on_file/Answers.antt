use Rattle.ll_steps.specs.CallOutcomes.{on_file}
use Rattle.ll_steps.proofs.StepKinds.{calls_stop, calls_walk}
use Rattle.ll_steps.proofs.world.World.steps_on_file.Goals as goal

pub returns-in-Ok : goal.returns-in-Ok
returns-in-Ok c = on_file c.fd_commit.new.self c.in-Ok.outcome c.in-Ok.ensures.makes c.in-Ok.ensures.made

pub returns-in-Some : goal.returns-in-Some
returns-in-Some c =
    calls_stop c.args.self.now c.args.client c.args.call c.in-Err.ensures.not_now c.fd_commit.new.self c.in-Err.call
    c.in-Err.ensures.same c.in-Err.ensures.back c.start.new.self c.in-Some.outcome c.in-Some.ensures.stops

pub returns-in-None : goal.returns-in-None
returns-in-None c =
    calls_walk c.args.self.now c.args.client c.args.call c.in-Err.ensures.not_now c.fd_commit.new.self c.in-Err.call
    c.in-Err.ensures.same c.in-Err.ensures.back c.start.new.self c.lead.new.self c.lead.result
    c.in-None.ensures.alone c.in-None.ensures.begins c.lead.ensures
