use Rattle.std.proofs.Common.{◌≡◌, ◌+◌, ◌-◌, ℕ, length}
use Rattle.ll_learn.specs.Mended.{chain_in}
use Rattle.ll_learn.proofs.site_chains.reach.Given as goal

-- so many rows are missing
abbrev pub decreases-loop-alloc : goal.decreases-loop-alloc
decreases-loop-alloc l = l.place + 1 - length l.rows.items

abbrev pub invariant-loop-alloc : goal.invariant-loop-alloc
invariant-loop-alloc l = (inode : ℕ) → chain_in l.rows.items inode ≡ chain_in l.fn.rows.items inode
