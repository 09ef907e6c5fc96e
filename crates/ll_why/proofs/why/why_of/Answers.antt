use Rattle.std.specs.Prelude.{slice_get}
use Rattle.std.proofs.Common.{ap, sym, ◌∙◌}
use Rattle.ll_seq.specs.Asked.{call_denials}
use Rattle.ll_seq.specs.Stages.{early_refusals}
use Rattle.ll_seq.proofs.StepParts.{none_first, refused_early}
use Rattle.ll_seq.proofs.Walked.{after_early, first_kept, in_order}
use Rattle.ll_seq.specs.Passed.{before_policy, found_refusals}
use Rattle.ll_why.proofs.PolicyAnswers.{judged, kept_is}
use Rattle.ll_why.proofs.why.why_of.Goals as goal

pub returns-in-Some-clause-answered : goal.returns-in-Some-clause-answered
returns-in-Some-clause-answered c n who =
    let s = c.args.tree.now in
    let call = c.args.call.now in
    refused_early s n call c.in-Some.errno
    (ap (λ z. slice_get (before_policy s z call) 0) who
    ∙ ap (λ es. slice_get es 0) (sym (in_order s c.args.caller.now call))
    ∙ first_kept (early_refusals c.args.caller.now call) (found_refusals s call) c.in-Some.errno
    (sym c.refused_early.ensures ∙ c.in-Some.is))

pub returns-in-Some-refused_found-clause-why : goal.returns-in-Some-refused_found-clause-why
returns-in-Some-refused_found-clause-why c =
    let s = c.args.tree.now in
    let caller = c.args.caller.now in
    let call = c.args.call.now in
    let early = none_first (early_refusals caller call) (sym c.refused_early.ensures ∙ c.in_default.is) in
    ap (λ es. slice_get es 0) (after_early s caller call early)
    ∙ sym (c.refused_found.ensures.refused s c.found-found.ensures) ∙ c.in-Some-refused_found.is

pub returns-in-Some-refused_found-clause-answered : goal.returns-in-Some-refused_found-clause-answered
returns-in-Some-refused_found-clause-answered c n who =
    let s = c.args.tree.now in
    let caller = c.args.caller.now in
    let call = c.args.call.now in
    let early = none_first (early_refusals caller call) (sym c.refused_early.ensures ∙ c.in_default.is) in
    refused_early s n call c.in-Some-refused_found.errno
    (ap (λ z. slice_get (before_policy s z call) 0) who
    ∙ ap (λ es. slice_get es 0) (after_early s caller call early)
    ∙ sym (c.refused_found.ensures.refused s c.found-found.ensures) ∙ c.in-Some-refused_found.is)

pub returns-in-Some-kept_number-clause-why : goal.returns-in-Some-kept_number-clause-why
returns-in-Some-kept_number-clause-why c =
    let s = c.args.tree.now in
    let caller = c.args.caller.now in
    let call = c.args.call.now in
    let early = none_first (early_refusals caller call) (sym c.refused_early.ensures ∙ c.in_default.is) in (
      after_early s caller call early
          ∙ none_first _ (sym (c.refused_found.ensures.refused s c.found-found.ensures)
          ∙ c.in_default-refused_found.is),
      kept_is s caller call c.in-Some-kept_number.number c.kept_denial.result
          (sym c.kept_number.ensures ∙ c.in-Some-kept_number.is) (c.kept_denial.ensures s),
      (c.in-Some-kept_number.number, sym c.kept_number.ensures ∙ c.in-Some-kept_number.is),
    )

pub returns-in-Some-kept_number-clause-answered : goal.returns-in-Some-kept_number-clause-answered
returns-in-Some-kept_number-clause-answered c n who =
    let s = c.args.tree.now in
    let caller = c.args.caller.now in
    let call = c.args.call.now in
    let early = none_first (early_refusals caller call) (sym c.refused_early.ensures ∙ c.in_default.is) in
    let free = after_early s caller call early
    ∙ none_first _ (sym (c.refused_found.ensures.refused s c.found-found.ensures)
    ∙ c.in_default-refused_found.is) in
    judged s n call (ap (λ z. before_policy s z call) who ∙ free) c.kept_denial.result
    (kept_is s caller call c.in-Some-kept_number.number c.kept_denial.result
    (sym c.kept_number.ensures ∙ c.in-Some-kept_number.is) (c.kept_denial.ensures s)
    ∙ ap (λ z. slice_get (call_denials s z call) 0) (sym who))

pub returns-clause-why : goal.returns-clause-why
returns-clause-why c =
    let s = c.args.tree.now in
    let caller = c.args.caller.now in
    let call = c.args.call.now in
    let early = none_first (early_refusals caller call) (sym c.refused_early.ensures ∙ c.in_default.is) in
    let passed = c.refused_found.ensures.passed c.in_default-refused_found.is s caller early c.found-found.ensures in (
      after_early s caller call early
          ∙ none_first _ (sym (c.refused_found.ensures.refused s c.found-found.ensures)
          ∙ c.in_default-refused_found.is),
      c.in_ok-told.ensures passed,
      sym c.kept_number.ensures ∙ c.in_default-kept_number.is,
    )

pub returns-clause-answered : goal.returns-clause-answered
returns-clause-answered c n who =
    let s = c.args.tree.now in
    let caller = c.args.caller.now in
    let call = c.args.call.now in
    let early = none_first (early_refusals caller call) (sym c.refused_early.ensures ∙ c.in_default.is) in
    let passed = c.refused_found.ensures.passed c.in_default-refused_found.is s caller early c.found-found.ensures in
    let free = after_early s caller call early
    ∙ none_first _ (sym (c.refused_found.ensures.refused s c.found-found.ensures)
    ∙ c.in_default-refused_found.is) in
    judged s n call (ap (λ z. before_policy s z call) who ∙ free) c.in_ok-told.told.denial
    ((c.in_ok-told.ensures passed).denial ∙ ap (λ z. slice_get (call_denials s z call) 0) (sym who))
