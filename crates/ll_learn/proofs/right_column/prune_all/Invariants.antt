use Rattle.std.proofs.Common.{◌≡◌, ◌<◌, ℕ, true, false}
use Rattle.ll_learn.specs.Columns.{is_at}
use Rattle.ll_learn.specs.Draft.{is_met, without}
use Rattle.ll_learn.proofs.right_column.prune_all.Given as goal
use Rattle.ll_learn.proofs.Columns.{IsPruned}

-- so far
abbrev pub invariant-loop-inode : goal.invariant-loop-inode
invariant-loop-inode l = record {
  pruned : IsPruned l.needs l.right l.fn.held.items l.held.items l.changed;
  needed : l.changed ≡ false → (inode : ℕ) → inode < l.inode → is_at l.held.items inode ≡ true
      → is_met (without inode (is_at l.held.items)) l.right l.needs ≡ false;
}
