-- A change of each slot in turn.
use Rattle.std.specs.Prelude.{◌≡◌, ℕ, zero, suc, ◌+◌, ◌<◌, ◌≤◌, List, [], ◌∷◌, length, map, slice_set, slice_index_or}
use Rattle.std.specs.Prelude.{refl}
use Rattle.std.specs.List.{AllByRecursion}
use Rattle.std.proofs.Common.{sym, ap, subst, ◌∙◌, arith}

all_at : {X : Type 0} (P : X → Type 0) (xs : List X) (n : ℕ) (d : X) → AllByRecursion P xs → n < length xs
    → P (slice_index_or xs n d)
all_at P [] n d all within = absurd (omega arith)
all_at P (x ∷ xs) zero d all within = all.0
all_at P (x ∷ xs) (suc n) d all within = all_at P xs n d all.1 (omega arith)

module _ {X : Type 0} (f : X → X) where
  -- so many from the front are changed, and the others aren't yet
  abbrev pub changed : ℕ → List X → List X
  changed zero xs = xs
  changed (suc n) [] = []
  changed (suc n) (x ∷ xs) = f x ∷ changed n xs

  put_next : (n : ℕ) (xs : List X) (d : X) → n < length xs
      → slice_set (changed n xs) n (f (slice_index_or (changed n xs) n d)) ≡ changed (suc n) xs
  put_next zero [] d within = absurd (omega arith)
  put_next zero (x ∷ xs) d within = refl
  put_next (suc n) [] d within = refl
  put_next (suc n) (x ∷ xs) d within = ap (λ ys. f x ∷ ys) (put_next n xs d (omega arith))

  pub one_more : (n : ℕ) (old now : List X) (x d : X) → now ≡ changed n old → n < length old
      → x ≡ f (slice_index_or now n d) → slice_set now n x ≡ changed (n + 1) old
  one_more n old now x d is within put =
      let next : suc n ≡ n + 1 = omega arith in
      ap (λ y. slice_set now n y) put
      ∙ ap (λ l. slice_set l n (f (slice_index_or l n d))) is
      ∙ put_next n old d within
      ∙ ap (λ k. changed k old) next

  at_end : (n : ℕ) (xs : List X) → length xs ≤ n → changed n xs ≡ map f xs
  at_end zero [] all = refl
  at_end zero (x ∷ xs) all = absurd (omega arith)
  at_end (suc n) [] all = refl
  at_end (suc n) (x ∷ xs) all = ap (λ ys. f x ∷ ys) (at_end n xs (omega arith))

  pub all_changed : (n : ℕ) (old now : List X) → now ≡ changed n old → length old ≤ n → now ≡ map f old
  all_changed n old now is all = is ∙ at_end n old all

  -- the next one is as it was
  next_unchanged : (n : ℕ) (xs : List X) (d : X) → slice_index_or (changed n xs) n d ≡ slice_index_or xs n d
  next_unchanged zero xs d = refl
  next_unchanged (suc n) [] d = refl
  next_unchanged (suc n) (x ∷ xs) d = next_unchanged n xs d

  pub of_next : (P : X → Type 0) (n : ℕ) (old now : List X) (d : X) → AllByRecursion P old → now ≡ changed n old
      → n < length old → P (slice_index_or now n d)
  of_next P n old now d all is within =
      subst P (sym (ap (λ l. slice_index_or l n d) is ∙ next_unchanged n old d)) (all_at P old n d all within)
