use Rattle.ll_laws.proofs.Growth.{history_grows}
use Rattle.ll_laws.proofs.shared.history_grows.Goals as goal

pub returns : goal.returns
returns c = history_grows
