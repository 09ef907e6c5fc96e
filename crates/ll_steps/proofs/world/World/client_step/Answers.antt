use Rattle.std.proofs.Common.{List, length, Result, IfOk, refl, ap, sym, subst, ◌∙◌}
use Rattle.ll_seq.specs.declared.call.Call.{Call}
use Rattle.ll_seq.specs.declared.reply.Entry.{Entry}
use Rattle.ll_laws.specs.World.{World}
use Rattle.ll_laws.specs.declared.step.Step.TheVariants.{ClientStep}
use Rattle.ll_steps.specs.Contents.{answered_as}
use Rattle.ll_steps.specs.Makes.{Makes}
use Rattle.ll_steps.specs.declared.report.Report.{Report}
use Rattle.ll_steps.proofs.DirectMakes.{alone_keeps, answer_makes}
use Rattle.ll_steps.proofs.world.World.client_step.Goals as goal
use Rattle.ll_steps.proofs.world.World.client_step.Goals.{in-Ok, in-Err}

pub invariant_of-self : goal.invariant_of-self
invariant_of-self c = alone_keeps _ _ _ c.args.client c.args.call c.client_step.result c.self.invariant
    c.client_step.ensures.does c.client_step.ensures.same c.client_step.ensures.spares

-- as the outcome is told
pub returns-clause-makes : goal.returns-clause-makes
returns-clause-makes c = subst
    (λ (v : World). IfOk c.match-client_step.result
    (λ (o : Report). Makes v (ClientStep c.args.client c.args.call) o c.client_step.new.self.world)) c.self.view_is
    (elim c.match-client_step.branch [
      | in-Ok w ↦
          subst (λ (r : Result Report Call). IfOk r
          (λ (o : Report). Makes c.self.inside.journal.world (ClientStep c.args.client c.args.call) o
          c.client_step.new.self.world)) (sym w.result-is)
          (subst (λ (o : Report). Makes c.self.inside.journal.world (ClientStep c.args.client c.args.call) o
          c.client_step.new.self.world)
          (sym (w.answered.ensures
          ∙ ap (λ (es : List Entry). answered_as (length es) w.in-Ok.answer) c.entries.ensures))
          (answer_makes c.self.inside.journal c.client_step.new.self (ClientStep c.args.client c.args.call)
          w.in-Ok.answer (λ e. cc e) refl w.in-Ok.ensures.does))
      | in-Err w ↦ subst (λ (r : Result Report Call). IfOk r
          (λ (o : Report). Makes c.self.inside.journal.world (ClientStep c.args.client c.args.call) o
          c.client_step.new.self.world)) (sym w.result-is) tt
    ])
