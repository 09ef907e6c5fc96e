use Rattle.std.proofs.Common.{ℕ, ap, sym, ◌∙◌}
use Rattle.ll_why.specs.Opener.{openings}
use Rattle.ll_why.proofs.Openings.{found, passed_over}
use Rattle.ll_why.proofs.opener.opening_in.Goals as goal

pub returns-in-Some-opened_target-clause-opening : goal.returns-in-Some-opened_target-clause-opening
returns-in-Some-opened_target-clause-opening c =
    sym (c.loop-last.invariant
    ∙ found c.loop-last.rest.now c.in-Some.before.now c.in-Some.last.now c.loop-last.holder c.args.descriptor
    c.in-Some.ensures.cases.0 c.in-Some-opened_target.ensures.some.0)

pub loop-last-preserved : goal.loop-last-preserved
loop-last-preserved c =
    let before = c.in-Some.before.now in
    c.loop-last.invariant
    ∙ passed_over c.loop-last.rest.now before c.in-Some.last.now c.loop-last.holder c.args.descriptor
    c.in-Some.ensures.cases.0 c.in_default-opened_target.ensures.none
    ∙ ap (λ (h : ℕ). openings before h c.args.descriptor) (sym c.holder_before-holder.ensures)
