use Rattle.std.proofs.Common.{◌+◌, ◌-◌, length}
use Rattle.ll_learn.proofs.index.PathIndex.note.Given as goal

-- so many slots are missing
abbrev pub decreases-loop-alloc : goal.decreases-loop-alloc
decreases-loop-alloc l = l.slot + 1 - length l.self.slots.items
