use Rattle.std.proofs.Common.{◌≡◌, ◌-◌, ◌^◌, ◌<◌, length}
use Rattle.std.specs.Io.KnownBytes.{Consumes}
use Rattle.ll_audit.specs.Faults.{IsReading}
use Rattle.ll_audit.proofs.file_audit.read_file.Given as goal

abbrev pub invariant-loop-chunk : goal.invariant-loop-chunk
invariant-loop-chunk g l = record {
  ready : IsReading (g.E.Ends.devices l.ends) (length l.bytes.items);
  chunk : 0 < length l.chunk.items;
  gained : Consumes (g.E.Ends.devices l.fn.ends).remaining (g.E.Ends.devices l.ends).remaining l.bytes.items;
  contents : (g.E.Ends.devices l.ends).contents ≡ (g.E.Ends.devices l.fn.ends).contents;
  same : g.E.Ends.names l.ends ≡ g.E.Ends.names l.fn.ends;
}

abbrev pub decreases-loop-chunk : goal.decreases-loop-chunk
decreases-loop-chunk g l = 2 ^ 63 - length l.bytes.items
