-- The first denial, found layer by layer and right by right.
use Rattle.std.specs.Prelude.{◌≡◌, ℕ, suc, ◌+◌, ◌-◌, ◌<◌, List, [], ◌∷◌, ◌++◌, length, drop, Option, Some, None}
use Rattle.std.specs.Prelude.{slice_get, refl}
use Rattle.std.specs.List.{flat_map, enumerate_from, range_with_len}
use Rattle.std.proofs.Common.{sym, ap, ◌∙◌, get_or, add-one, arith}
use Rattle.std.proofs.Math.Seq.{drop-cons}

pub first_front : {D : Type 0} (xs ys : List D) (d : D) → slice_get xs 0 ≡ Some d → slice_get (xs ++ ys) 0 ≡ Some d
first_front [] ys d e = absurd cc
first_front (x ∷ xs) ys d e = e

pub first_back : {D : Type 0} (xs ys : List D) → slice_get xs 0 ≡ None → slice_get (xs ++ ys) 0 ≡ slice_get ys 0
first_back [] ys e = refl
first_back (x ∷ xs) ys e = absurd cc

-- a list from an element on
pub at_element : {A : Type 0} (xs : List A) (i : ℕ) (x : A) → i < length xs → x ≡ get_or xs i x
    → drop i xs ≡ x ∷ drop (i + 1) xs
at_element xs i x lt is = drop-cons xs i x lt ∙ ap (λ y. y ∷ drop (suc i) xs) (sym is)
    ∙ ap (λ k. x ∷ drop k xs) (sym (add-one i))

module _ {A D : Type 0} (f : A → List D) (xs : List A) (i : ℕ) where
  pub found_here : (x : A) (d : D) (whole : Option D) → i < length xs → x ≡ get_or xs i x → slice_get (f x) 0 ≡ Some d
      → whole ≡ slice_get (flat_map f (drop i xs)) 0 → whole ≡ Some d
  found_here x d whole lt is e so_far =
      so_far ∙ ap (λ ys. slice_get (flat_map f ys) 0) (at_element xs i x lt is)
      ∙ first_front (f x) (flat_map f (drop (i + 1) xs)) d e

  pub found_later : (x : A) (whole : Option D) → i < length xs → x ≡ get_or xs i x → slice_get (f x) 0 ≡ None
      → whole ≡ slice_get (flat_map f (drop i xs)) 0 → whole ≡ slice_get (flat_map f (drop (i + 1) xs)) 0
  found_later x whole lt is e so_far =
      so_far ∙ ap (λ ys. slice_get (flat_map f ys) 0) (at_element xs i x lt is)
      ∙ first_back (f x) (flat_map f (drop (i + 1) xs)) e

-- the same over the numbers below n, counted from 1
module _ {D : Type 0} (f : ℕ × ℕ → List D) (i n : ℕ) where
  abbrev rest : ℕ → List D
  rest k = flat_map f (enumerate_from (k + 1) (range_with_len k (n - k)))

  opened : i < n → rest i ≡ f (i + 1, i) ++ rest (i + 1)
  opened lt = let more : n - i ≡ suc (n - (i + 1)) = omega arith in
      ap (λ k. flat_map f (enumerate_from (i + 1) (range_with_len i k))) more

  pub numbered_later : (whole : Option D) → i < n → slice_get (f (i + 1, i)) 0 ≡ None → whole ≡ slice_get (rest i) 0
      → whole ≡ slice_get (rest (i + 1)) 0
  numbered_later whole lt e so_far =
      so_far ∙ ap (λ ds. slice_get ds 0) (opened lt) ∙ first_back (f (i + 1, i)) (rest (i + 1)) e

  pub numbered_here : (d : D) (whole : Option D) → i < n → slice_get (f (i + 1, i)) 0 ≡ Some d
      → whole ≡ slice_get (rest i) 0 → whole ≡ Some d
  numbered_here d whole lt e so_far =
      so_far ∙ ap (λ ds. slice_get ds 0) (opened lt) ∙ first_front (f (i + 1, i)) (rest (i + 1)) d e
