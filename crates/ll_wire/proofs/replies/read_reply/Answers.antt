use Rattle.std.proofs.Common.{inl, refl}
use Rattle.ll_wire.proofs.ReadReplies.{no_reply, line_reads}
use Rattle.ll_wire.proofs.replies.read_reply.Goals as goal

pub returns-in_default : goal.returns-in_default
returns-in_default c = inl (refl, no_reply _ c.in_default.ensures.none)

pub returns : goal.returns
returns c = line_reads c.args.line.now c.in-Some.body.now _ c.in-Some.ensures.found c.reply_of.ensures
