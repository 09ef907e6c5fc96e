use Rattle.std.specs.Prelude.{slice_get}
use Rattle.std.proofs.Common.{ap, sym, ◌∙◌}
use Rattle.ll_seq.proofs.decision.decide.Goals as goal
use Rattle.ll_seq.proofs.StepParts.{none_first, refused_early}
use Rattle.ll_seq.proofs.Walked.{first_kept, in_order}
use Rattle.ll_seq.specs.Passed.{before_policy, found_refusals}
use Rattle.ll_seq.specs.Stages.{early_refusals}

pub returns-in-Some-clause-decided : goal.returns-in-Some-clause-decided
returns-in-Some-clause-decided c s n who ours facts granted =
    let call = c.args.call.now in
    refused_early s n call c.in-Some.errno
    (ap (λ z. slice_get (before_policy s z call) 0) who
    ∙ ap (λ es. slice_get es 0) (sym (in_order s c.args.caller.now call))
    ∙ first_kept (early_refusals c.args.caller.now call) (found_refusals s call) c.in-Some.errno
    (sym c.refused_early.ensures ∙ c.in-Some.is))

pub decide_passed-requires-clause-early : goal.decide_passed-requires-clause-early
decide_passed-requires-clause-early c =
    none_first (early_refusals c.args.caller.now c.args.call.now) (sym c.refused_early.ensures ∙ c.in_default.is)
