use Rattle.ll_laws.proofs.Growth.{withheld_between}
use Rattle.ll_laws.proofs.shared.worlds_withhold.Goals as goal

pub returns : goal.returns
returns c = withheld_between
