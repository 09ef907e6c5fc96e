use Rattle.std.proofs.Common.{inl, refl, arith}
use Rattle.ll_wire.proofs.EntryTokens.{no_entry, line_reads}
use Rattle.ll_wire.proofs.entry.read_entry.Goals as goal

pub returns-in_default : goal.returns-in_default
returns-in_default c = inl (refl, no_entry c.args.line.now c.in_default.ensures.none)

pub returns : goal.returns
returns c = line_reads c.args.line.now c.in-Some.body.now c.entry_of.result (omega arith) c.in-Some.ensures.found
    c.entry_of.ensures
