use Rattle.ll_wire.proofs.OneReply.{spells_one_reply}
use Rattle.ll_wire.proofs.grammar.spells_one_reply.Goals as goal

pub returns : goal.returns
returns c = spells_one_reply
