use Rattle.std.proofs.Common.{◌≡◌, ℕ, true, take}
use Rattle.ll_learn.specs.Columns.{is_at}
use Rattle.ll_learn.specs.Draft.{IsSpread, is_mended_at}
use Rattle.ll_learn.proofs.right_column.close_once.Given as goal
use Rattle.ll_learn.proofs.Columns.{IsClosed}

-- so far
abbrev pub invariant-loop-moved : goal.invariant-loop-moved
invariant-loop-moved l = record {
  closed : IsClosed (is_mended_at l.scope l.right l.moves) l.right (take l.moved-index l.moves) l.fn.held.items
      l.held.items l.changed;
  spread : (inode : ℕ) → is_at l.held.items inode ≡ true
      → IsSpread l.scope l.right l.moves (is_at l.fn.held.items) inode;
}
