use Rattle.std.specs.Prelude.{Option}
use Rattle.std.proofs.Common.{subst}
use Rattle.ll_steps.specs.CallOutcomes.{goes_on}
use Rattle.ll_steps.specs.Left.{StepsOn}
use Rattle.ll_steps.specs.declared.report.Report.{Report}
use Rattle.ll_steps.proofs.world.World.lead.Goals as goal

pub steps-init : goal.steps-init
steps-init c = λ o v leads. leads

pub returns-in-Some : goal.returns-in-Some
returns-in-Some c =
    c.steps.invariant c.in-Some.outcome c.go_on.new.self
    (subst (λ (r : Option Report). StepsOn c.steps.self c.args.client r c.go_on.new.self) c.in-Some.is c.go_on.ensures)

pub steps-smaller : goal.steps-smaller
steps-smaller c = (subst (λ (r : Option Report). StepsOn c.steps.self c.args.client r c.go_on.new.self) c.in_default.is
    c.go_on.ensures).2

pub steps-preserved : goal.steps-preserved
steps-preserved c =
    let went = subst (λ (r : Option Report). StepsOn c.steps.self c.args.client r c.go_on.new.self) c.in_default.is
    c.go_on.ensures in
    λ o v leads. c.steps.invariant o v (goes_on c.steps.self c.go_on.new.self v o went.0 went.1 leads)
