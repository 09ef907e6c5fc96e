use Rattle.ll_laws.specs.World.{World}
use Rattle.ll_steps.specs.CallOutcomes.{Leads}
use Rattle.ll_steps.specs.Left.{steps_left}
use Rattle.ll_steps.specs.declared.report.Report.{Report}
use Rattle.ll_steps.proofs.world.World.lead.Given as goal

abbrev pub invariant-steps : goal.invariant-steps
invariant-steps l = (o : Report) (v : World) → Leads l.client l.self o v → Leads l.client l.fn.self o v

abbrev pub decreases-steps : goal.decreases-steps
decreases-steps l = steps_left l.self l.client
