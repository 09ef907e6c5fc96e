use Rattle.std.proofs.Common.{◌≡◌, ◌<◌, ◌≤◌, ℕ, false, length}
use Rattle.ll_learn.specs.Draft.{IsLeast, has}
use Rattle.ll_learn.proofs.solution.draft_of.Given as goal

-- rights before this one are held as needed, and others nowhere
abbrev pub invariant-loop-right : goal.invariant-loop-right
invariant-loop-right l = record {
  handled : l.draft.handled ≡ l.scope.handled;
  len : length l.draft.rules.items ≡ length l.scope.may.items;
  before : (right : ℕ) → right < l.right-index → IsLeast l.scope l.needs right (has l.draft right);
  behind : (inode right : ℕ) → right < 15 → l.right-index ≤ right → has l.draft right inode ≡ false;
}
