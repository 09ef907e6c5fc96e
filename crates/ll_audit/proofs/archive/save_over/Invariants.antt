use Rattle.std.proofs.Common.{◌≡◌, false}
use Rattle.std.specs.Prelude.{string_bytes}
use Rattle.ll_wire.specs.Grammar.{line_of}
use Rattle.ll_wire.specs.Entries.{header_tokens, entry_line}
use Rattle.ll_audit.proofs.SavedText.{IsWaiting}
use Rattle.ll_audit.proofs.archive.save_over.Given as goal

abbrev pub invariant-loop-entry : goal.invariant-loop-entry
invariant-loop-entry g l = record {
  waits : IsWaiting (line_of (header_tokens l.fn.header)) entry_line l.entries l.entry-index
      (g.E.Ends.devices l.fn.ends).contents (g.E.Ends.devices l.ends).contents (string_bytes l.text);
  whole : (g.E.Ends.devices l.ends).is_output_broken ≡ false;
  same : g.E.Ends.names l.ends ≡ g.E.Ends.names l.fn.ends;
}
