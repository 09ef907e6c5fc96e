use Rattle.std.proofs.Common.{◌≡◌, ◌+◌, ℕ, true, false}
use Rattle.std.specs.Prelude.{if◌then◌else◌}
use Rattle.std.specs.List.{list_all}
use Rattle.ll_learn.specs.Columns.{Grows, free_count, is_at}
use Rattle.ll_learn.specs.Draft.{IsSpread, is_gainless, is_mended_at}
use Rattle.ll_learn.proofs.right_column.close.Given as goal

-- once nothing changed, no move lets the right be gained
abbrev pub invariant-loop-changed : goal.invariant-loop-changed
invariant-loop-changed l = record {
  grows : Grows (is_mended_at l.scope l.right l.moves) l.fn.held.items l.held.items;
  spread : (inode : ℕ) → is_at l.held.items inode ≡ true
      → IsSpread l.scope l.right l.moves (is_at l.fn.held.items) inode;
  done : l.changed ≡ false → list_all (is_gainless (is_at l.held.items) l.right) l.moves ≡ true;
}

abbrev pub decreases-loop-changed : goal.decreases-loop-changed
decreases-loop-changed l = free_count l.held.items + (if l.changed then 1 else 0)
