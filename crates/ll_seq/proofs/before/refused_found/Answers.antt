use Rattle.std.proofs.Common.{sym, ◌∙◌}
use Rattle.ll_seq.specs.Call.{first_path, second_path}
use Rattle.ll_seq.specs.Stages.{walk_refusals}
use Rattle.ll_seq.specs.CallParts.{existence_refusals}
use Rattle.ll_seq.specs.Passed.{found_refusals}
use Rattle.ll_seq.proofs.StepParts.{none_first}
use Rattle.ll_seq.proofs.Walked.{after_early, all_passed, first_stands, second_stands}
use Rattle.ll_seq.proofs.before.refused_found.Goals as goal

pub returns-clause-refused : goal.returns-clause-refused
returns-clause-refused c s facts =
    let call = c.args.call.now in
    let found = c.args.found.now in
    c.first.ensures (walk_refusals s call) (existence_refusals s call (first_path call) (second_path call))
    (c.walk_refusal.ensures s facts)
    (λ free. c.existence_refusal-existence.ensures s (first_stands s call found facts free)
    (second_stands s call found facts free))

pub returns-clause-passed : goal.returns-clause-passed
returns-clause-passed c none s caller early facts =
    let call = c.args.call.now in
    all_passed s caller call c.args.found.now facts
    (after_early s caller call early
    ∙ none_first (found_refusals s call) (sym (returns-clause-refused c s facts) ∙ none))
