-- The first that passes a test: where it lies, and what is there once it is changed.
use Rattle.std.specs.Prelude.{◌≡◌, ℕ, zero, suc, ◌+◌, ◌<◌, ◌==◌, Bool, true, false, List, [], ◌∷◌, length, Option}
use Rattle.std.specs.Prelude.{Some, None}
use Rattle.std.specs.Prelude.{cond, find, is_some, IfNone, IfSome, refl}
use Rattle.std.specs.List.{position_from}
use Rattle.std.proofs.Common.{ap, arith, eq-eqb, eqb-true, get_or, set, subst, sym, ◌∙◌}
use Rattle.ll_learn.specs.Watched.{IsAt}

module _ {A : Type 0} (test : A → Bool) where
  none_at : (i : ℕ) (xs : List A) → position_from test i xs ≡ None → find test xs ≡ None
  none_at i [] none = refl
  none_at i (x ∷ xs) none = of (test x) none (none_at (i + 1) xs)
    where
      of : (b : Bool) → cond b (Some i) (position_from test (i + 1) xs) ≡ None
          → (position_from test (i + 1) xs ≡ None → find test xs ≡ None) → cond b (Some x) (find test xs) ≡ None
      of true e rest = absurd cc
      of false e rest = rest e

  abbrev From : ℕ → List A → ℕ → Type 0
  From i xs p = (q : ℕ) × (p ≡ i + q) × IsAt test xs q

  some_at : (i : ℕ) (xs : List A) (p : ℕ) → position_from test i xs ≡ Some p → From i xs p
  some_at i [] p some = absurd cc
  some_at i (x ∷ xs) p some = of (test x) refl some (some_at (i + 1) xs p)
    where
      of : (b : Bool) → test x ≡ b → cond b (Some i) (position_from test (i + 1) xs) ≡ Some p
          → (position_from test (i + 1) xs ≡ Some p → From (i + 1) xs p) → From i (x ∷ xs) p
      of true t e rest = let same : i ≡ p = cc in (0, omega (arith, same), t)
      of false t e rest = let later = rest e in let far = later.1 in (suc later.0, omega (arith, far), (t, later.2))

  pub none_is : (xs : List A) (place : Option ℕ) → place ≡ position_from test 0 xs
      → IfNone place (find test xs ≡ None)
  none_is xs None is = none_at 0 xs (sym is)
  none_is xs (Some i) is = tt

  pub some_is : (xs : List A) (place : Option ℕ) → place ≡ position_from test 0 xs → IfSome place (IsAt test xs)
  some_is xs None is = tt
  some_is xs (Some i) is =
      let at = some_at 0 xs i (sym is) in
      let near = at.1 in
      let same : at.0 ≡ i = omega (arith, near) in
      subst (IsAt test xs) same at.2

  pub at_within : (xs : List A) (q : ℕ) → IsAt test xs q → q < length xs
  at_within [] q at = absurd at
  at_within (x ∷ xs) zero at = omega arith
  at_within (x ∷ xs) (suc q) at = let less = at_within xs q at.1 in omega (arith, less)

  pub some_within : (xs : List A) (place : Option ℕ) → place ≡ position_from test 0 xs
      → IfSome place (λ i. i < length xs)
  some_within xs None is = tt
  some_within xs (Some i) is = at_within xs i (some_is xs (Some i) is)

  pub found_there : (xs : List A) (q : ℕ) (d : A) → IsAt test xs q → find test xs ≡ Some (get_or xs q d)
  found_there [] q d at = absurd at
  found_there (x ∷ xs) zero d at = λ i. cond (at i) (Some x) (find test xs)
  found_there (x ∷ xs) (suc q) d at = (λ i. cond (at.0 i) (Some x) (find test xs)) ∙ found_there xs q d at.1

  pub some_there : (xs : List A) (q : ℕ) → IsAt test xs q → is_some (find test xs) ≡ true
  some_there [] q at = absurd at
  some_there (x ∷ xs) zero at = λ i. is_some (cond (at i) (Some x) (find test xs))
  some_there (x ∷ xs) (suc q) at = (λ i. is_some (cond (at.0 i) (Some x) (find test xs))) ∙ some_there xs q at.1

  pub passes_there : (xs : List A) (q : ℕ) (d : A) → IsAt test xs q → test (get_or xs q d) ≡ true
  passes_there [] q d at = absurd at
  passes_there (x ∷ xs) zero d at = at
  passes_there (x ∷ xs) (suc q) d at = passes_there xs q d at.1

-- changed in place, the first with a number is found by that number, and the others are as they were
module _ {A : Type 0} (number : A → ℕ) (n : ℕ) (y : A) (same : number y ≡ n) where
  abbrev is_numbered : ℕ → A → Bool
  is_numbered m x = number x == m

  new_first : (m : ℕ) (xs : List A) (x : A) → number x ≡ n
      → find (is_numbered m) (y ∷ xs) ≡ cond (n == m) (Some y) (find (is_numbered m) (x ∷ xs))
  new_first m xs x old = (λ i. cond (same i == m) (Some y) (find (is_numbered m) xs)) ∙ of (n == m) refl
    where
      of : (b : Bool) → (n == m) ≡ b
          → cond b (Some y) (find (is_numbered m) xs) ≡ cond b (Some y) (find (is_numbered m) (x ∷ xs))
      of true e = refl
      of false e = sym (λ i. cond ((ap (λ k. k == m) old ∙ e) i) (Some x) (find (is_numbered m) xs))

  pub changed_there : (m : ℕ) (xs : List A) (q : ℕ) → IsAt (is_numbered n) xs q
      → find (is_numbered m) (set xs q y) ≡ cond (n == m) (Some y) (find (is_numbered m) xs)
  changed_there m [] q at = absurd at
  changed_there m (x ∷ xs) zero at = new_first m xs x (eqb-true (number x) n at)
  changed_there m (x ∷ xs) (suc q) at =
      ap (λ (o : Option A). cond (number x == m) (Some x) o) (changed_there m xs q at.1)
      ∙ of (number x == m) (n == m) refl refl
    where
      of : (b c : Bool) → (number x == m) ≡ b → (n == m) ≡ c
          → cond b (Some x) (cond c (Some y) (find (is_numbered m) xs))
          ≡ cond c (Some y) (cond b (Some x) (find (is_numbered m) xs))
      of false c e f = refl
      of true false e f = refl
      of true true e f =
          let one : number x ≡ m = eqb-true (number x) m e in
          let two : n ≡ m = eqb-true n m f in
          let all : number x ≡ n = cc in absurd (cc (sym at.0 ∙ eq-eqb (number x) n all))
