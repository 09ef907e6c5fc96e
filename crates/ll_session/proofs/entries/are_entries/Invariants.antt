use Rattle.std.proofs.Common.{All, take}
use Rattle.ll_wire.specs.Entries.{IsEntry}
use Rattle.ll_session.proofs.entries.are_entries.Given as goal

abbrev pub invariant-loop-entry : goal.invariant-loop-entry
invariant-loop-entry l = All IsEntry (take l.entry-index l.fn.history.entries)
