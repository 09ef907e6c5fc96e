use Rattle.ll_laws.proofs.Gates.{holder_is_never_stale}
use Rattle.ll_laws.proofs.shared.gate_holder_is_never_stale.Goals as goal

pub returns : goal.returns
returns c = holder_is_never_stale
