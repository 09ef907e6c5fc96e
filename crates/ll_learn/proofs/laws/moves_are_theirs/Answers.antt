use Rattle.ll_learn.proofs.OutsideMoves.{moves_are_theirs}
use Rattle.ll_learn.proofs.laws.moves_are_theirs.Goals as goal

pub returns : goal.returns
returns c = moves_are_theirs
