use Rattle.std.proofs.Common.{◌≡◌, List, length, ap, sym, subst, ◌∙◌}
use Rattle.ll_seq.specs.declared.reply.Entry.{Entry}
use Rattle.ll_laws.specs.World.{World}
use Rattle.ll_laws.specs.declared.step.Step.TheVariants.{FdCommit}
use Rattle.ll_journal.specs.declared.start.Start.TheVariants as start
use Rattle.ll_steps.specs.CallOutcomes.{Calls, Waits}
use Rattle.ll_steps.specs.Contents.{answered_as}
use Rattle.ll_steps.specs.declared.report.Report.{Report}
use Rattle.ll_steps.specs.declared.report.Report.TheVariants.{NotNow}
use Rattle.ll_steps.proofs.DirectMakes.{back_calls, made_calls, start_keeps}
use Rattle.ll_steps.proofs.world.World.start.Goals as goal

pub invariant_of-self : goal.invariant_of-self
invariant_of-self c =
    start_keeps _ _ _ c.args.client c.args.call c.start.result c.self.invariant
    c.start.ensures.starts c.start.ensures.spares

pub invariant_of-self-in-Begun : goal.invariant_of-self-in-Begun
invariant_of-self-in-Begun c =
    start_keeps _ _ _ c.args.client c.args.call start.Begun c.self.invariant
    c.in-Begun.ensures.starts c.in-Begun.ensures.spares

-- it is made at once, as the outcome is told
pub returns-in-Made-clause-stops : goal.returns-in-Made-clause-stops
returns-in-Made-clause-stops c =
    let at : World → Report → Type 0 = λ v o.
    Waits v (FdCommit c.args.client c.args.call) → Calls v c.args.client c.args.call o c.start.new.self.world in
    let told : c.answered.result ≡ answered_as (length c.self.inside.journal.world.history) c.in-Made.answer =
    c.answered.ensures ∙ ap (λ (es : List Entry). answered_as (length es) c.in-Made.answer) c.entries.ensures in
    subst (λ (v : World). at v c.answered.result) c.self.view_is
    (subst (at c.self.inside.journal.world) (sym told)
    (made_calls c.self.inside.journal c.start.new.self c.args.client c.args.call c.in-Made.answer
    c.in-Made.ensures.starts))

-- it may not set out
pub returns-clause-stops : goal.returns-clause-stops
returns-clause-stops c =
    subst (λ (v : World).
    Waits v (FdCommit c.args.client c.args.call) → Calls v c.args.client c.args.call NotNow c.start.new.self.world)
    c.self.view_is
    (back_calls c.self.inside.journal c.start.new.self c.args.client c.args.call c.in-Back.call
    c.in-Back.ensures.starts)
