use Rattle.std.proofs.Common.{◌≡◌, ◌++◌, List, ℕ, length}
use Rattle.std.specs.Io.KnownBytes.{Appends}
use Rattle.ll_wire.specs.Devices.{Took}
use Rattle.ll_wire.proofs.sink.write_out.Given as goal

abbrev pub invariant-loop-rest : goal.invariant-loop-rest
invariant-loop-rest g l = record {
  front : (front : List ℕ) × (l.bytes ≡ front ++ l.rest)
      × Appends (g.E.Ends.devices l.fn.ends).contents (g.E.Ends.devices l.ends).contents front
      × Took (g.E.Ends.devices l.fn.ends) (g.E.Ends.devices l.ends) front;
  same : g.E.Ends.names l.ends ≡ g.E.Ends.names l.fn.ends;
}

abbrev pub decreases-loop-rest : goal.decreases-loop-rest
decreases-loop-rest g l = length l.rest
