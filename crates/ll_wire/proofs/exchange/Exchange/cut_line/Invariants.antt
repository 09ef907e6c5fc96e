use Rattle.std.proofs.Common.{◌≡◌, ◌<◌, ◌≤◌, ◌++◌, ◌⊎◌, [], ℕ, List, Some}
use Rattle.ll_wire.proofs.CutStreams.{IsOpen}
use Rattle.ll_wire.specs.LineCuts.{Calls, CanGoOn, Counts, Holds, IsLeft, IsSilent, most_left}
use Rattle.ll_wire.proofs.exchange.Exchange.cut_line.Given as goal

abbrev pub invariant-loop-byte : goal.invariant-loop-byte
invariant-loop-byte g l = let d = g.E.Ends.devices in record {
  ready : CanGoOn 0 l.self (d l.ends);
  silent : IsSilent 0 l.self;
  line : (left : List ℕ) → IsLeft l.fn.self (d l.fn.ends).remaining left
      → (part rest : List ℕ) × (left ≡ part ++ rest) × IsOpen part × Holds l.line part
      × IsLeft l.self (d l.ends).remaining rest;
  some : (l.line ≡ Some []) ⊎ (most_left l.self < most_left l.fn.self);
  fewer : most_left l.self ≤ most_left l.fn.self;
  contents : (d l.ends).contents ≡ (d l.fn.ends).contents;
  waiting : l.self.waiting ≡ l.fn.self.waiting;
  counted : Counts l.fn.self l.self (d l.fn.ends).remaining (d l.ends).remaining;
  calls : Calls l.fn.self l.self (d l.fn.ends) (d l.ends);
  same : g.E.Ends.names l.ends ≡ g.E.Ends.names l.fn.ends;
}

abbrev pub decreases-loop-byte : goal.decreases-loop-byte
decreases-loop-byte g l = most_left l.self
