use Rattle.std.proofs.Common.{◌≡◌, ◌+◌, ℕ, true, false}
use Rattle.std.specs.Prelude.{if◌then◌else◌}
use Rattle.ll_learn.specs.Columns.{Shrinks, held_count, is_at}
use Rattle.ll_learn.specs.Draft.{is_met, without}
use Rattle.ll_learn.proofs.right_column.prune.Given as goal

-- once nothing changed, nothing can be left out
abbrev pub invariant-loop-again : goal.invariant-loop-again
invariant-loop-again l = record {
  shrinks : Shrinks l.fn.held.items l.held.items;
  met : is_met (is_at l.held.items) l.right l.needs ≡ true;
  needed : l.again ≡ false → (inode : ℕ) → is_at l.held.items inode ≡ true
      → is_met (without inode (is_at l.held.items)) l.right l.needs ≡ false;
}

abbrev pub decreases-loop-again : goal.decreases-loop-again
decreases-loop-again l = held_count l.held.items + (if l.again then 1 else 0)
