use Rattle.std.specs.Prelude.{◌≡◌, false, Option, Some, None, is_some, slice_get, refl}
use Rattle.std.proofs.Common.{ap, sym, ◌∙◌}
use Rattle.ll_rights.specs.declared.errno.Errno.{Errno}
use Rattle.ll_seq.specs.Passed.{found_refusals}
use Rattle.ll_seq.specs.Stages.{early_refusals}
use Rattle.ll_seq.proofs.StepParts.{none_first}
use Rattle.ll_seq.proofs.Walked.{after_early}
use Rattle.ll_learn.proofs.demand.found_for.Goals as goal

none_of : (o : Option Errno) → is_some o ≡ false → o ≡ None
none_of None e = refl
none_of (Some x) e = absurd cc

pub returns-in-Some-clause-refused : goal.returns-in-Some-clause-refused
returns-in-Some-clause-refused c = λ is free.
    let s = c.args.tree.now in
    let caller = c.args.caller.now in
    let call = c.args.call.now in
    let early = none_first (early_refusals caller call)
    (sym c.refused_early.ensures ∙ none_of c.refused_early.result (sym c.is_some.ensures ∙ c.if-is_some.false)) in
    let none : c.refused_found.result ≡ None = c.refused_found.ensures.refused s c.found-found.ensures
    ∙ ap (λ l. slice_get l 0) (sym (after_early s caller call early) ∙ free) in
    let some = c.in-Some.is in absurd (cc (sym some ∙ none))

pub returns-in-None-clause-free : goal.returns-in-None-clause-free
returns-in-None-clause-free c =
    let s = c.args.tree.now in
    let caller = c.args.caller.now in
    let call = c.args.call.now in
    let early = none_first (early_refusals caller call)
    (sym c.refused_early.ensures ∙ none_of c.refused_early.result (sym c.is_some.ensures ∙ c.if-is_some.false)) in
    after_early s caller call early
    ∙ none_first (found_refusals s call) (sym (c.refused_found.ensures.refused s c.found-found.ensures) ∙ c.in-None.is)

pub returns-in-None-clause-passed : goal.returns-in-None-clause-passed
returns-in-None-clause-passed c =
    let caller = c.args.caller.now in
    let call = c.args.call.now in
    let early = none_first (early_refusals caller call)
    (sym c.refused_early.ensures ∙ none_of c.refused_early.result (sym c.is_some.ensures ∙ c.if-is_some.false)) in
    c.refused_found.ensures.passed c.in-None.is c.args.tree.now caller early c.found-found.ensures
