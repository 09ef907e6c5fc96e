use Rattle.std.proofs.Common.{arith}
use Rattle.ll_check.proofs.LastParts.{cut_last}
use Rattle.ll_check.proofs.own_policy.cut_at_space.Goals as goal

pub returns : goal.returns
returns c = cut_last 32 c.args.text.now _ c.rsplit_once.ensures.cases (omega arith)
