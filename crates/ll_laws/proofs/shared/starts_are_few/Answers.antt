use Rattle.ll_laws.proofs.Gates.{starts_are_few}
use Rattle.ll_laws.proofs.shared.starts_are_few.Goals as goal

pub returns : goal.returns
returns c = starts_are_few
