use Rattle.ll_laws.proofs.Growth.{no_gain_between}
use Rattle.ll_laws.proofs.shared.worlds_never_gain.Goals as goal

pub returns : goal.returns
returns c = no_gain_between
