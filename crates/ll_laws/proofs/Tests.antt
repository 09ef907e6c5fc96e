-- What tests say of each other.
use Rattle.std.specs.Prelude.{◌≡◌, ℕ, Bool, true, false, not, ◌&&◌, ◌||◌, ◌==◌, List, [], ◌∷◌, ◌++◌, filter, cond, refl}
use Rattle.std.specs.List.{list_any}
use Rattle.std.proofs.Common.{sym, ap, ◌∙◌}
use Rattle.std.proofs.lemmas.Bool.{eqb-true, eq-eqb}
use Rattle.std.proofs.lemmas.List.Folds.{list_any-append}
use Rattle.ll_seq.proofs.Parted.{or_left, or_right}
use Rattle.ll_laws.proofs.Unrefused.{neither}
use Rattle.ll_laws.specs.Walk.{is_in}
use Rattle.ll_laws.specs.World.{has_any}

pub both : (a b : Bool) → (a && b) ≡ true → (a ≡ true) × (b ≡ true)
both true b e = (refl, e)
both false b e = absurd (cc e)

pub second : (a b : Bool) → a ≡ false → (a || b) ≡ true → b ≡ true
second true b e f = absurd (cc e)
second false b e f = f

pub not_true : (b : Bool) → not b ≡ true → b ≡ false
not_true true e = absurd (cc e)
not_true false e = refl

pub or_false : (b : Bool) → (b ≡ true → ⊥) → b ≡ false
or_false true f = absurd (f refl)
or_false false f = refl

pub is_nil : {A : Type 0} (xs : List A) → has_any xs ≡ false → xs ≡ []
is_nil [] e = refl
is_nil (x ∷ xs) e = absurd (cc e)

-- ---- lists of inodes

pub itself_in : (x : ℕ) (xs : List ℕ) → is_in (x ∷ xs) x ≡ true
itself_in x xs = or_left (x == x) (is_in xs x) (eq-eqb x x refl)

pub first_in : (xs ys : List ℕ) (x : ℕ) → is_in xs x ≡ true → is_in (xs ++ ys) x ≡ true
first_in xs ys x e = list_any-append (λ y. y == x) xs ys ∙ or_left (is_in xs x) (is_in ys x) e

pub second_in : (xs ys : List ℕ) (x : ℕ) → is_in ys x ≡ true → is_in (xs ++ ys) x ≡ true
second_in xs ys x e = list_any-append (λ y. y == x) xs ys ∙ or_right (is_in xs x) (is_in ys x) e

-- a test that fails of all fails of each
pub none_of : (f : ℕ → Bool) (xs : List ℕ) (d : ℕ) → list_any f xs ≡ false → is_in xs d ≡ true → f d ≡ false
none_of f [] d e i = absurd (cc i)
none_of f (x ∷ xs) d e i =
    let w = neither (f x) (list_any f xs) e in
    elim (x == d) as (λ b. (x == d) ≡ b → (b || is_in xs d) ≡ true → f d ≡ false) [
      | true ↦ λ is g. ap f (sym (eqb-true x d is)) ∙ w.0
      | false ↦ λ is g. none_of f xs d w.1 g
    ] refl i

pub is_in_filter : (h : ℕ → Bool) (xs : List ℕ) (r : ℕ) → is_in (filter h xs) r ≡ (is_in xs r && h r)
is_in_filter h [] r = refl
is_in_filter h (x ∷ xs) r = by (x == r) (h x) refl refl (is_in_filter h xs r)
  where
    false_and : (a b : Bool) → b ≡ false → (a && b) ≡ false
    false_and true b e = e
    false_and false b e = refl

    by : (a b : Bool) → (x == r) ≡ a → h x ≡ b → is_in (filter h xs) r ≡ (is_in xs r && h r)
        → is_in (cond b (x ∷ filter h xs) (filter h xs)) r ≡ ((a || is_in xs r) && h r)
    by true true e f ih = ap (λ c. c || is_in (filter h xs) r) e ∙ sym (ap h (sym (eqb-true x r e)) ∙ f)
    by true false e f ih = let off : h r ≡ false = ap h (sym (eqb-true x r e)) ∙ f in ih ∙ false_and _ _ off ∙ sym off
    by false true e f ih = ap (λ c. c || is_in (filter h xs) r) e ∙ ih
    by false false e f ih = ih
