use Rattle.ll_wire.proofs.Headers.{spells_one_header}
use Rattle.ll_wire.proofs.grammar.spells_one_header.Goals as goal

pub returns : goal.returns
returns c = spells_one_header
