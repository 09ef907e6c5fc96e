use Rattle.ll_seq.specs.Call.{first_path, second_path}
use Rattle.ll_seq.specs.CallParts.{kind_refusals, limit_refusals}
use Rattle.ll_seq.proofs.later.refused_after.Goals as goal

pub returns : goal.returns
returns c s ours passed =
    let call = c.args.call.now in
    c.first.ensures (kind_refusals s c.args.caller.now call (first_path call) (second_path call))
    (limit_refusals s c.args.caller.now call (first_path call) (second_path call))
    (c.kind_refusal-kind.ensures s ours passed) (λ free. c.limit_refusal.ensures s ours passed)
