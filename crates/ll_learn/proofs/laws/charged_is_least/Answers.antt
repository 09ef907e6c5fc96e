use Rattle.ll_learn.proofs.LeastReach.{charged_is_least}
use Rattle.ll_learn.proofs.laws.charged_is_least.Goals as goal

pub returns : goal.returns
returns c = charged_is_least
