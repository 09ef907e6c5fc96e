use Rattle.std.proofs.Common.{◌≡◌, length, vec_len}
use Rattle.ll_walk.proofs.table.locks.Given as goal

abbrev pub invariant-loop-slot : goal.invariant-loop-slot
invariant-loop-slot g l = vec_len l.locks ≡ length l.yielded
