use Rattle.std.proofs.Common.{sym}
use Rattle.ll_steps.specs.CallOutcomes.{walks}
use Rattle.ll_steps.proofs.DirectMakes.{no_descriptor}
use Rattle.ll_steps.proofs.world.World.steps_of.Goals as goal

pub returns-in-None-start : goal.returns-in-None-start
returns-in-None-start c =
    walks c.start.new.self c.lead.new.self c.lead.result
    (no_descriptor c.args.self.now c.args.client c.args.call (sym c.in-None.ensures))
    c.in-None-start.ensures.alone c.in-None-start.ensures.begins c.lead.ensures
