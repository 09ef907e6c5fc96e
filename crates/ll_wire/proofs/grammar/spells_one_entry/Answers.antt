use Rattle.ll_wire.proofs.EntryTokens.{spells_one_entry}
use Rattle.ll_wire.proofs.grammar.spells_one_entry.Goals as goal

pub returns : goal.returns
returns c = spells_one_entry
