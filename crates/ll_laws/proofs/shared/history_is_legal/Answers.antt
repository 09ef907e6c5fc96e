use Rattle.ll_laws.proofs.Growth.{history_is_legal}
use Rattle.ll_laws.proofs.shared.history_is_legal.Goals as goal

pub returns : goal.returns
returns c = history_is_legal
