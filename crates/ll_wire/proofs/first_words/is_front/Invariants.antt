use Rattle.std.proofs.Common.{◌≡◌, take}
use Rattle.ll_wire.proofs.first_words.is_front.Given as goal

abbrev pub invariant-loop-i : goal.invariant-loop-i
invariant-loop-i l = take l.i l.front ≡ take l.i l.names
