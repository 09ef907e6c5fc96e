use Rattle.ll_why.proofs.SameVerdicts.{same_verdicts}
use Rattle.ll_why.proofs.laws.same_verdicts.Goals as goal

pub returns : goal.returns
returns c = same_verdicts
