use Rattle.std.proofs.Common.{◌≡◌, ℕ, ◌<◌, ◌≤◌, get_or}
use Rattle.ll_rules.specs.Layer.{Layer}
use Rattle.ll_decide.proofs.Carried.{IsNext}
use Rattle.ll_decide.proofs.masks.add_rules.Given as goal

abbrev pub invariant-loop-i : goal.invariant-loop-i
invariant-loop-i l = record {
  done : (k : ℕ) → k < l.i → (d : ℕ) (e : Layer)
      → IsNext (get_or l.layers k e) l.inode (get_or l.initial.masks k d) (get_or l.masks k d);
  left : (k : ℕ) → l.i ≤ k → (d : ℕ) → get_or l.masks k d ≡ get_or l.initial.masks k d;
}
