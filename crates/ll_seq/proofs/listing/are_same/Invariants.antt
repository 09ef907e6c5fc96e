use Rattle.std.proofs.Common.{◌≡◌, take}
use Rattle.ll_seq.proofs.listing.are_same.Given as goal

abbrev pub invariant-loop-i : goal.invariant-loop-i
invariant-loop-i l = take l.i l.names ≡ take l.i l.others
