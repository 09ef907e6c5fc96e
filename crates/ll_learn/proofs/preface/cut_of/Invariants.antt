use Rattle.std.specs.Prelude.{take}
use Rattle.ll_learn.specs.Learned.{NeverConnects}
use Rattle.ll_learn.proofs.preface.cut_of.Given as goal

abbrev pub invariant-loop-i : goal.invariant-loop-i
invariant-loop-i l = NeverConnects (take l.i l.entries) l.client
