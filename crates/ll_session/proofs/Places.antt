-- What threads leave in the places of a list.
use Rattle.std.proofs.Common.{◌≡◌, ◌<◌, ℕ, List, ◌++◌, ◌∙◌, ap, arith, drop, length, slice_index_or, subst, sym}
use Rattle.std.proofs.Common.{take}
use Rattle.std.specs.List.{All}
use Rattle.std.proofs.lemmas.List.{take-append-le}
use Rattle.std.proofs.Math.Seq.{take-length}

module _ {A : Type 0} (P : A → Type 0) (new old : List A) (len : ℕ) (same : length new ≡ len) where
  -- each place was left so, and all are written back
  pub left_by_all : ((k : ℕ) (d : A) → k < len → (it : A) × (it ≡ slice_index_or new k d) × P it) → (n : ℕ)
      → n ≡ len
      → All P (take n (new ++ drop (length new) old))
  left_by_all each n is =
      subst (All P)
      (sym (take-append-le n new (drop (length new) old) (omega (arith, same, is))
      ∙ (ap (λ k. take k new) (is ∙ sym same) ∙ take-length new)))
      (λ k d below. let it = each k d (subst (λ (m : ℕ). k < m) same below) in subst P it.1 it.2)
