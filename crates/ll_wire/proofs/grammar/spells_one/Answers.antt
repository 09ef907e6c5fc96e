use Rattle.ll_wire.proofs.Unique.{spells_one}
use Rattle.ll_wire.proofs.grammar.spells_one.Goals as goal

pub returns : goal.returns
returns c = spells_one
