use Rattle.ll_learn.proofs.LeastReach.{need_is_reached}
use Rattle.ll_learn.proofs.laws.need_is_reached.Goals as goal

pub returns : goal.returns
returns c = need_is_reached
