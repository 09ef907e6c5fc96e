use Rattle.ll_laws.proofs.EndsReached.{blocked_are_refused}
use Rattle.ll_laws.proofs.shared.blocked_are_refused.Goals as goal

pub returns : goal.returns
returns c = blocked_are_refused
