use Rattle.ll_seq.specs.Call.{path_of}
use Rattle.ll_seq.proofs.ChangesByKind.{opening_fits}
use Rattle.ll_seq.proofs.LastNames.{one_way, not_named}
use Rattle.ll_seq.proofs.effects.opening_of.Goals as goal

pub returns-clause-fits : goal.returns-clause-fits
returns-clause-fits c s free =
    let t = c.args.target.now in
    opening_fits s c.args.caller.now (path_of t) _ c.free_descriptor.ensures
    (λ none. c.of.ensures.place s free.passed.first (one_way s t free.passed.way) (not_named s (path_of t) none))
    (c.named.ensures.stands s (path_of t) free.passed.first) free.limits
