use Rattle.ll_laws.proofs.Gain.{no_gain}
use Rattle.ll_laws.proofs.alone.reach_never_grows.Goals as goal

pub returns : goal.returns
returns c = no_gain
