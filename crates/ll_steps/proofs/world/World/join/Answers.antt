use Rattle.std.proofs.Common.{Err, ap, sym, subst}
use Rattle.ll_laws.specs.World.{World}
use Rattle.ll_laws.specs.declared.step.Step.TheVariants.{Join}
use Rattle.ll_steps.specs.Makes.{Makes}
use Rattle.ll_steps.specs.declared.report.Report.{Report}
use Rattle.ll_steps.proofs.DirectMakes.{join_keeps, join_makes}
use Rattle.ll_steps.proofs.world.World.join.Goals as goal
use Rattle.ll_steps.proofs.world.World.join.Goals.{in-Ok, in-Err}

pub invariant_of-self : goal.invariant_of-self
invariant_of-self c = join_keeps _ _ _ c.connect.result c.self.invariant c.connect.ensures.joined c.connect.ensures.same
    c.connect.ensures.spares

pub returns : goal.returns
returns c = subst (λ (w : World). Makes w Join c.match-connect.result c.connect.new.self.world) c.self.view_is
    (elim c.match-connect.branch [
      | in-Ok w ↦ subst (λ (o : Report). Makes c.self.inside.journal.world Join o c.connect.new.self.world)
          (sym w.result-is) w.in-Ok.ensures.joined
      | in-Err w ↦
          subst (λ (o : Report). Makes c.self.inside.journal.world Join o c.connect.new.self.world) (sym w.result-is)
          (join_makes c.self.inside.journal c.connect.new.self w.in-Err.errno w.in-Err.ensures.same
          w.in-Err.ensures.refused
          (λ e. w.in-Err.ensures.starved (ap Err e)))
    ])
