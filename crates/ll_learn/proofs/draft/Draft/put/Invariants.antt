use Rattle.std.proofs.Common.{◌≡◌, ◌<◌, ◌≤◌, ◌==◌, ◌||◌, ◌&&◌, ℕ, length}
use Rattle.ll_learn.specs.Columns.{is_at}
use Rattle.ll_learn.specs.Draft.{has}
use Rattle.ll_learn.proofs.draft.Draft.put.Given as goal

-- below the inode with the right, and from there on as before
abbrev pub invariant-loop-inode : goal.invariant-loop-inode
invariant-loop-inode l = record {
  handled : l.self.handled ≡ l.fn.self.handled;
  len : length l.self.rules.items ≡ length l.fn.self.rules.items;
  below : (inode other : ℕ) → other < 15 → inode < l.inode → has l.self other inode
      ≡ (has l.fn.self other inode || ((other == l.right) && is_at l.held inode));
  above : (inode other : ℕ) → l.inode ≤ inode → has l.self other inode ≡ has l.fn.self other inode;
}
