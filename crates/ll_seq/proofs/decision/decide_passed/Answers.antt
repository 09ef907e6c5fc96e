use Rattle.std.specs.Prelude.{slice_get}
use Rattle.std.proofs.Common.{ap, sym, ◌∙◌}
use Rattle.ll_seq.specs.Asked.{call_denials}
use Rattle.ll_seq.proofs.decision.decide_passed.Goals as goal
use Rattle.ll_seq.proofs.StepParts.{none_first, refused_early, denied, refused_late, none_refused}
use Rattle.ll_seq.proofs.AnswerParts.{comes_so}
use Rattle.ll_seq.proofs.Walked.{after_early}
use Rattle.ll_seq.specs.Passed.{before_policy, after_policy}

pub returns-in-Some-clause-decided : goal.returns-in-Some-clause-decided
returns-in-Some-clause-decided c s n who ours facts granted =
    let call = c.args.call.now in
    refused_early s n call c.in-Some.errno (ap (λ z. slice_get (before_policy s z call) 0) who
    ∙ ap (λ es. slice_get es 0) (after_early s c.args.caller.now call c.requires.early)
    ∙ sym (c.refused_found.ensures.refused s facts) ∙ c.in-Some.is)

pub returns-in-Some-denial_of-clause-decided : goal.returns-in-Some-denial_of-clause-decided
returns-in-Some-denial_of-clause-decided c s n who ours facts granted =
    let call = c.args.call.now in
    let free = ap (λ z. before_policy s z call) who ∙ after_early s c.args.caller.now call c.requires.early
    ∙ none_first _ (sym (c.refused_found.ensures.refused s facts) ∙ c.in_default.is) in
    let passed = c.refused_found.ensures.passed c.in_default.is s c.args.caller.now c.requires.early facts in
    let judged = c.denial_of.ensures s c.args.caller.now passed ours granted in
    denied s n call free c.in-Some-denial_of.denial
    (ap (λ z. slice_get (call_denials s z call) 0) who ∙ judged ∙ c.in-Some-denial_of.is)

pub returns-in-Some-refused_after-clause-decided : goal.returns-in-Some-refused_after-clause-decided
returns-in-Some-refused_after-clause-decided c s n who ours facts granted =
    let call = c.args.call.now in
    let free = ap (λ z. before_policy s z call) who ∙ after_early s c.args.caller.now call c.requires.early
    ∙ none_first _ (sym (c.refused_found.ensures.refused s facts) ∙ c.in_default.is) in
    let passed = c.refused_found.ensures.passed c.in_default.is s c.args.caller.now c.requires.early facts in
    let judged = c.denial_of.ensures s c.args.caller.now passed ours granted in
    let allowed = ap (λ z. slice_get (call_denials s z call) 0) who ∙ judged ∙ c.in_default-denial_of.is in
    refused_late s n call free allowed c.in-Some-refused_after.errno
    (ap (λ z. slice_get (after_policy s z call) 0) who ∙ sym (c.refused_after.ensures s ours passed)
    ∙ c.in-Some-refused_after.is)

pub returns-clause-decided : goal.returns-clause-decided
returns-clause-decided c s n who ours facts granted =
    let call = c.args.call.now in
    let free = ap (λ z. before_policy s z call) who ∙ after_early s c.args.caller.now call c.requires.early
    ∙ none_first _ (sym (c.refused_found.ensures.refused s facts) ∙ c.in_default.is) in
    let passed = c.refused_found.ensures.passed c.in_default.is s c.args.caller.now c.requires.early facts in
    let judged = c.denial_of.ensures s c.args.caller.now passed ours granted in
    let allowed = ap (λ z. slice_get (call_denials s z call) 0) who ∙ judged ∙ c.in_default-denial_of.is in
    let late = none_first (after_policy s c.args.caller.now call) (sym (c.refused_after.ensures s ours passed)
    ∙ c.in_default-refused_after.is) in
    comes_so s n c.args.caller.now call c.args.found.now c.effect_of.result who ours passed late
    (none_refused s n call free allowed (ap (λ z. after_policy s z call) who ∙ late))
    (λ fresh is_free. c.effect_of.ensures.done s n fresh ours is_free granted)
    (λ is_free. c.effect_of.ensures.fits s ours is_free) c.effect_of.ensures.lean
