use Rattle.ll_wire.proofs.Sizes.{entries_fit}
use Rattle.ll_wire.proofs.grammar.entries_fit.Goals as goal

pub returns : goal.returns
returns c = entries_fit
