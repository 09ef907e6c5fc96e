use Rattle.std.proofs.Common.{◌≡◌, map, take}
use Rattle.std.specs.Prelude.{Some}
use Rattle.ll_seq.specs.Tree.{named}
use Rattle.ll_learn.proofs.learned.Aim.inodes.Given as goal

-- the nodes so far
abbrev pub invariant-loop-i : goal.invariant-loop-i
invariant-loop-i l = map Some l.inodes.items ≡ map (named l.tree) (take l.i l.self.beneath.now)
