use Rattle.ll_learn.proofs.right_column.prune_in.Given as goal
use Rattle.ll_learn.proofs.Columns.{IsPruned}

-- so far
abbrev pub invariant-loop-inode : goal.invariant-loop-inode
invariant-loop-inode l = IsPruned l.needs l.right l.fn.held.items l.held.items l.changed
