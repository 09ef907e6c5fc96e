use Rattle.std.proofs.Common.{◌≡◌, true≢false, sym, ◌∙◌, subst, ◌+◌}
use Rattle.ll_audit.specs.Audit.{IsFirstIllegal}
use Rattle.ll_audit.proofs.Follows.{goes_on, stops, starves}
use Rattle.ll_audit.proofs.follow.Goals as goal

pub loop-i-preserved : goal.loop-i-preserved
loop-i-preserved c =
    goes_on c.args.tree.now c.args.entries.now c.loop-i.i c.index-entries-i.result c.loop-i.tree c.loop-i-test.true
    c.index-entries-i.is c.loop-i.invariant c.may_stand.new.tree
    (c.in-Ok-true.ensures.stands.0 c.in-Ok-true.field-0-test) (c.in-Ok-true.ensures.after c.in-Ok-true.field-0-test)
    c.in-Ok-true.ensures.numbers

pub returns-in-Ok-false-clause-illegal : goal.returns-in-Ok-false-clause-illegal
returns-in-Ok-false-clause-illegal c = λ number is.
    let same : c.loop-i.i + 1 ≡ number = cc in
    subst (IsFirstIllegal c.args.tree.now c.args.entries.now) same
    (stops c.args.tree.now c.args.entries.now c.loop-i.i c.index-entries-i.result c.loop-i.tree c.loop-i-test.true
    c.index-entries-i.is c.loop-i.invariant
    (λ may. true≢false (sym (c.in-Ok-false.ensures.stands.1 may) ∙ c.in-Ok-false.field-0-test)))

pub returns-in-Err-clause-starved : goal.returns-in-Err-clause-starved
returns-in-Err-clause-starved c = λ is.
    starves c.args.tree.now c.args.entries.now c.loop-i.i c.index-entries-i.result c.loop-i.tree c.loop-i-test.true
    c.index-entries-i.is c.loop-i.invariant
    c.in-Err.ensures.starved

pub returns-in-Err-clause-illegal : goal.returns-in-Err-clause-illegal
returns-in-Err-clause-illegal c = λ number is. absurd cc
