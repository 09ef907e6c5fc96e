use Rattle.ll_learn.proofs.MendedReach.{mended_is_least}
use Rattle.ll_learn.proofs.laws.mended_is_least.Goals as goal

pub returns : goal.returns
returns c = mended_is_least
