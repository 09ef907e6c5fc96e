use Rattle.ll_learn.proofs.RequiredRights.{asks_are_required}
use Rattle.ll_learn.proofs.laws.asks_are_required.Goals as goal

pub returns : goal.returns
returns c = asks_are_required
