use Rattle.ll_laws.proofs.EndsReached.{ends_are_reached}
use Rattle.ll_laws.proofs.shared.ends_are_reached.Goals as goal

pub returns : goal.returns
returns c = ends_are_reached
