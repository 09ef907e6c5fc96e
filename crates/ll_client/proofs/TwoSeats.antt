-- Seats that agree, after the view of one changes or one more comes.
use Rattle.std.proofs.Common.{◌≡◌, ◌≢◌, ◌⊎◌, ℕ, zero, suc, List, [], ◌∷◌, ◌++◌, length, set, sym, ap, ⊎_elim, inl, inr}
use Rattle.std.proofs.Common.{refl}
use mathlib.Core.Option.{some, some-ne-none, some-injective}
use lib.ListN.{get_elem?}
use Rattle.atomic_table.proofs.Lists.{at_set}
use Rattle.ll_client.specs.Views.{Known}
use Rattle.ll_client.specs.TieRule.{Agree, IsTied}

-- the last one stands at the end
at_end : {A : Type 0} (l : List A) (a b : A) (j : ℕ) → get_elem? (l ++ a ∷ []) j ≡ some b
    → (get_elem? l j ≡ some b) ⊎ ((j ≡ length l) × (a ≡ b))
at_end [] a b zero e = inr (refl, some-injective a b e)
at_end [] a b (suc j) e = absurd (some-ne-none b (sym e))
at_end (x ∷ xs) a b zero e = inl e
at_end (x ∷ xs) a b (suc j) e = ⊎_elim inl (λ t. inr (ap suc t.0, t.1)) (at_end xs a b j e)

module _ {D : Type 0} where
  -- the seat of this number has this view
  abbrev pub At : List (Known D) → ℕ → Known D → Type 0
  At views i u = get_elem? views i ≡ some u

  -- the view of a seat after that of one is w: it is that one, or has the view it had
  abbrev pub IsNow : List (Known D) → ℕ → Known D → ℕ → Known D → Type 0
  IsNow views by w j u = ((j ≡ by) × (w ≡ u)) ⊎ ((j ≢ by) × At views j u)

  -- one seat agrees with another, and that one with it
  abbrev pub Both : ℕ → Known D → ℕ → Known D → Type 0
  Both i u j v = Agree i u j v × Agree j v i u

  -- a seat with this view agrees with itself and with each of the others
  abbrev pub Fits : List (Known D) → ℕ → Known D → Type 0
  Fits views by w =
      Agree by w by w × ((j : ℕ) (u : Known D) → j ≢ by → At views j u → Both by w j u)

  -- the two are this one
  itself : (i j by : ℕ) (u v w : Known D) → (i ≡ by) × (w ≡ u) → (j ≡ by) × (w ≡ v) → Agree by w by w → Agree i u j v
  itself i j by u v w x y = rw (x.0, sym x.1, y.0, sym y.1) (λ is. is)

  -- the one is this one
  first_is : (i j by : ℕ) (u v w : Known D) → (i ≡ by) × (w ≡ u) → Agree by w j v → Agree i u j v
  first_is i j by u v w x = rw (x.0, sym x.1) (λ is. is)

  second_is : (i j by : ℕ) (u v w : Known D) → (j ≡ by) × (w ≡ v) → Agree i u by w → Agree i u j v
  second_is i j by u v w y = rw (y.0, sym y.1) (λ is. is)

  pub tied_set : (views : List (Known D)) (by : ℕ) (w : Known D) → IsTied views → Fits views by w
      → IsTied (set views by w)
  tied_set views by w tied fits i j u v at_i at_j = cases (at_set views by i w u at_i) (at_set views by j w v at_j)
    where
      cases : IsNow views by w i u → IsNow views by w j v → Agree i u j v
      cases (inl x) (inl y) = itself i j by u v w x y fits.0
      cases (inl x) (inr y) = first_is i j by u v w x (fits.1 j v y.0 y.1).0
      cases (inr x) (inl y) = second_is i j by u v w y (fits.1 i u x.0 x.1).1
      cases (inr x) (inr y) = tied i j u v x.1 y.1

  pub tied_more : (views : List (Known D)) (w : Known D) → IsTied views → Agree (length views) w (length views) w
      → ((j : ℕ) (u : Known D) → At views j u → Both (length views) w j u) → IsTied (views ++ w ∷ [])
  tied_more views w tied alone others i j u v at_i at_j = cases (at_end views w u i at_i) (at_end views w v j at_j)
    where
      Is : ℕ → Known D → Type 0
      Is k x = At views k x ⊎ ((k ≡ length views) × (w ≡ x))

      cases : Is i u → Is j v → Agree i u j v
      cases (inl x) (inl y) = tied i j u v x y
      cases (inl x) (inr y) = second_is i j (length views) u v w y (others i u x).1
      cases (inr x) (inl y) = first_is i j (length views) u v w x (others j v y).0
      cases (inr x) (inr y) = itself i j (length views) u v w x y alone
