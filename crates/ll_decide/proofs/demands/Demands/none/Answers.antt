use Rattle.std.proofs.Common.{refl}
use Rattle.ll_decide.proofs.OneByOne.{none_asked, none_moved}
use Rattle.ll_decide.proofs.demands.Demands.none.Goals as goal

pub returns-clause-asks : goal.returns-clause-asks
returns-clause-asks c = none_asked _ (refl, refl, refl, refl, refl, refl, refl)

pub returns-clause-moves : goal.returns-clause-moves
returns-clause-moves c = none_moved _ (refl, refl, refl, refl, refl, refl, refl)
