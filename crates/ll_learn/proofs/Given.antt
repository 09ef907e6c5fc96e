-- What lists of rules give, and what sets of rights hold after a change.
use Rattle.std.proofs.Common.{◌≡◌, ◌∙◌, ◌<◌, ◌==◌, ◌&&◌, ◌||◌, ℕ, zero, suc, Bool, true, false, List, [], ◌∷◌}
use Rattle.std.proofs.Common.{◌++◌, ◌+◌, arith, cond}
use Rattle.std.proofs.Common.{Some, ap, sym, refl, length, take, get_or, ◌⊎◌, inl, inr}
use Rattle.std.specs.Prelude.{slice_get, slice_index_or, slice_set}
use Rattle.std.specs.List.{count_by, list_any}
use Rattle.std.proofs.lemmas.Bool.{eqb-true}
use Rattle.std.proofs.lemmas.List.{take_more}
use Rattle.std.proofs.lemmas.List.Folds.{list_any-append}
use Rattle.std.proofs.lemmas.List.Sums.{sum_by-append, sum_by-cons}
use Rattle.std.proofs.lemmas.Option.{get_or_from_slice_get, slice_get_read}

-- the element that is read, with any other in place of what lies past the end
pub read_at : {A : Type 0} (xs : List A) (i : ℕ) (x d : A) → i < length xs → x ≡ get_or xs i x
    → slice_index_or xs i d ≡ x
read_at xs i x d lt is = get_or_from_slice_get xs i x d (slice_get_read xs (length xs) i x refl lt is)

-- what is read is among them
pub read_among : {A : Type 0} (xs : List A) (i : ℕ) (x : A) → i < length xs → x ≡ get_or xs i x
    → slice_get xs i ≡ Some x
read_among xs i x lt is = slice_get_read xs (length xs) i x refl lt is

-- one element more is tested
pub any_more : {A : Type 0} (p : A → Bool) (xs : List A) (i : ℕ) (x : A) → i < length xs → x ≡ get_or xs i x
    → list_any p (take (i + 1) xs) ≡ (list_any p (take i xs) || p x)
any_more p xs i x lt is =
    ap (list_any p) (take_more xs i x lt ∙ ap (λ y. take i xs ++ y ∷ []) (sym is))
    ∙ list_any-append p (take i xs) (x ∷ []) ∙ ap (λ b. list_any p (take i xs) || b) (or_false (p x))
  where
    or_false : (b : Bool) → (b || false) ≡ b
    or_false true = refl
    or_false false = refl

-- one more is counted
pub counted : {A : Type 0} (p : A → Bool) (xs : List A) (x : A)
    → count_by p (xs ++ x ∷ []) ≡ count_by p xs + cond (p x) 1 0
counted {A} p xs x =
    let f : A → ℕ = λ y. cond (p y) 1 0 in
    let one = sum_by-cons f x [] in
    let all = sum_by-append f xs (x ∷ []) in
    omega (arith, one, all)

-- one element more of a front is counted
pub count_more : {A : Type 0} (p : A → Bool) (xs : List A) (i : ℕ) (x : A) → i < length xs → x ≡ get_or xs i x
    → count_by p (take (i + 1) xs) ≡ count_by p (take i xs) + cond (p x) 1 0
count_more p xs i x lt is =
    ap (count_by p) (take_more xs i x lt ∙ ap (λ y. take i xs ++ y ∷ []) (sym is)) ∙ counted p (take i xs) x

-- one test of two is parted
pub parted : (t e h : Bool) → ((t && h) || (e && h)) ≡ ((t || e) && h)
parted true true true = refl
parted true true false = refl
parted true false true = refl
parted true false false = refl
parted false e h = refl

-- a fact of a number where it is that number
pub same_at : (i j : ℕ) (f : ℕ → Bool) (b : Bool) → b ≡ f i → ((i == j) && b) ≡ ((i == j) && f j)
same_at i j f b e = go (i == j) refl
  where
    go : (t : Bool) → (i == j) ≡ t → (t && b) ≡ (t && f j)
    go true is = e ∙ ap f (eqb-true i j is)
    go false is = refl

pub or_nothing : (b c : Bool) → c ≡ false → b ≡ (b || c)
or_nothing true c e = refl
or_nothing false c e = sym e

-- after a change of one element, an element is as it was, or it is that one
pub set_cases : {A : Type 0} (xs : List A) (i k : ℕ) (v d : A)
    → (slice_index_or (slice_set xs i v) k d ≡ slice_index_or xs k d)
    ⊎ ((k ≡ i) × (slice_index_or (slice_set xs i v) k d ≡ v))
set_cases [] i k v d = inl refl
set_cases (x ∷ xs) zero zero v d = inr (refl, refl)
set_cases (x ∷ xs) zero (suc k) v d = inl refl
set_cases (x ∷ xs) (suc i) zero v d = inl refl
set_cases (x ∷ xs) (suc i) (suc k) v d = elim (set_cases xs i k v d) [
  | inl e ↦ inl e
  | inr e ↦ inr (ap suc e.0, e.1)
]

-- an element that passes is among those that are tested
pub any_at : {A : Type 0} (p : A → Bool) (xs : List A) (i : ℕ) (x : A) → slice_get xs i ≡ Some x → p x ≡ true
    → list_any p xs ≡ true
any_at p [] i x e is = absurd cc
any_at p (y ∷ xs) zero x e is =
    let same : y ≡ x = cc in ap (λ b. b || list_any p xs) (ap p same ∙ is)
any_at p (y ∷ xs) (suc i) x e is = ap (λ b. p y || b) (any_at p xs i x e is) ∙ or_true (p y)
  where
    or_true : (b : Bool) → (b || true) ≡ true
    or_true true = refl
    or_true false = refl

-- what is asked for is among those that are there
pub met_at : (there has : Bool) → (has ≡ true → there ≡ true) → (there && has) ≡ has
met_at true has e = refl
met_at false true e = e refl
met_at false false e = refl
