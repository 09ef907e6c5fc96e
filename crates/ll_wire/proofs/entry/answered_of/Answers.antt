use Rattle.std.proofs.Common.{map, take}
use Rattle.ll_wire.proofs.EntryTokens.{cut_reads}
use Rattle.ll_wire.proofs.entry.answered_of.Goals as goal

pub returns : goal.returns
returns c =
    let tokens = map (λ t. t.now) (take c.in-Some.count c.cut_of.new.tokens) in
    cut_reads c.args.text.now tokens c.in-Some.reply.now c.both.result c.in-Some.ensures.found.1
    (c.both.ensures tokens c.in-Some.reply.now c.entry_call_of.ensures c.entry_reply_of.ensures)
