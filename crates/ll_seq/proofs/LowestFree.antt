-- The lowest free descriptor, sought from below.
use Rattle.std.proofs.Common.{◌≡◌, ℕ, suc, ◌+◌, ◌-◌, ◌<◌, ◌≤◌, Bool, true, false, cond, not, List, [], ◌∷◌, Option}
use Rattle.std.proofs.Common.{Some, None, is_some, add-one, ap, ◌∙◌, sym, arith, refl}
use Rattle.std.specs.Prelude.{find}
use Rattle.std.specs.Ordering.{nat_cmp}
use Rattle.ll_rights.specs.Map.{Map, get, has}
use Rattle.ll_seq.specs.declared.client.Descriptor.{Descriptor}
use Rattle.ll_seq.specs.Stages.{numbers_from, lowest_free}

split : (p : ℕ → Bool) (n m : ℕ) → m ≡ suc (64 - (n + 1))
    → find p (numbers_from n m) ≡ cond (p n) (Some n) (find p (numbers_from (n + 1) (64 - (n + 1))))
unfolding numbers_from
split p n m more = ap (λ k. find p (numbers_from n k)) more
    ∙ ap (λ k. cond (p n) (Some n) (find p (numbers_from k (64 - (n + 1))))) (sym (add-one n))

nothing : (p : ℕ → Bool) (n m : ℕ) → m ≡ 0 → find p (numbers_from n m) ≡ None
unfolding numbers_from
nothing p n m zero_is = ap (λ k. find p (numbers_from n k)) zero_is

module _ (descriptors : Map nat_cmp Descriptor) where
  abbrev is_free : ℕ → Bool
  is_free fd = not (has descriptors fd)

  pub free_here : (o : Option ℕ) (n : ℕ) → n < 64 → has descriptors n ≡ false
      → o ≡ find is_free (numbers_from n (64 - n)) → Some n ≡ o
  free_here o n below free is =
      sym (is ∙ split is_free n (64 - n) (omega arith)
      ∙ ap (λ b. cond (not b) (Some n) (find is_free (numbers_from (n + 1) (64 - (n + 1))))) free)

  pub free_later : (o : Option ℕ) (n : ℕ) → n < 64 → has descriptors n ≡ true
      → o ≡ find is_free (numbers_from n (64 - n)) → o ≡ find is_free (numbers_from (n + 1) (64 - (n + 1)))
  free_later o n below taken is =
      is ∙ split is_free n (64 - n) (omega arith)
      ∙ ap (λ b. cond (not b) (Some n) (find is_free (numbers_from (n + 1) (64 - (n + 1))))) taken

  pub free_nowhere : (o : Option ℕ) (n : ℕ) → 64 ≤ n → o ≡ find is_free (numbers_from n (64 - n)) → None ≡ o
  free_nowhere o n past is = sym (is ∙ nothing is_free n (64 - n) (omega arith))

  found_passes : (p : ℕ → Bool) (xs : List ℕ) (n : ℕ) → find p xs ≡ Some n → p n ≡ true
  found_passes p [] n e = absurd cc
  found_passes p (x ∷ xs) n e = elim (p x) as (λ b. p x ≡ b → cond b (Some x) (find p xs) ≡ Some n → p n ≡ true) [
    | true ↦ λ passes f. let same : x ≡ n = cc in ap p (sym same) ∙ passes
    | false ↦ λ fails f. found_passes p xs n f
  ] refl e

  absent : (o : Option Descriptor) → not (is_some o) ≡ true → o ≡ None
  absent None e = refl
  absent (Some d) e = absurd cc

  -- the number found has no descriptor
  pub found_free : (n : ℕ) → lowest_free descriptors ≡ Some n → get descriptors n ≡ None
  found_free n e = absent (get descriptors n) (found_passes is_free (numbers_from 0 64) n e)
