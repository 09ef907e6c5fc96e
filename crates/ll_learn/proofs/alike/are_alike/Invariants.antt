use Rattle.std.specs.Prelude.{◌≡◌, take}
use Rattle.ll_learn.proofs.alike.are_alike.Given as goal

-- so far they are the same
abbrev pub invariant-loop-i : goal.invariant-loop-i
invariant-loop-i l = take l.i l.some ≡ take l.i l.others
