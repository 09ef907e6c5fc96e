use Rattle.ll_laws.proofs.Worlds.{walks_are_valid}
use Rattle.ll_laws.proofs.shared.walks_are_valid.Goals as goal

pub returns : goal.returns
returns c = walks_are_valid
