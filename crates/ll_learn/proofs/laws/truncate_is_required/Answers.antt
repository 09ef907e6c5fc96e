use Rattle.ll_learn.proofs.RequiredRights.{truncate_is_required}
use Rattle.ll_learn.proofs.laws.truncate_is_required.Goals as goal

pub returns : goal.returns
returns c = truncate_is_required
