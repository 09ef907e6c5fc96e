-- Clients in one list meet: what contracts see of the list afterwards.
use Rattle.std.specs.Prelude.{◌≡◌, ◌≢◌, ℕ, zero, suc, ◌-◌, ◌<◌, max, List, [], ◌∷◌, ◌++◌, length, map}
use Rattle.std.specs.Prelude.{None, Some, option_map, slice_get, slice_index_or, slice_set, refl}
use Rattle.std.proofs.Common.{sym, ap, subst, ◌∙◌, inl, inr, arith}
use Rattle.std.proofs.lemmas.List.{get_or_append_left, get_or-append_right, length-set, map-set}
use Rattle.std.proofs.lemmas.List.{set-append_left, set-append_right}
use Rattle.std.proofs.lemmas.Option.{slice_get-get_or, slice_get-map}
use Rattle.ll_client.specs.Entries.{Knows}
use Rattle.ll_session.specs.Talk.{HaveMet, IsLast, IsMet, met, seen_by}
use Rattle.ll_session.proofs.Seen.{seen_low, seen_set}

-- ---- the same client in its place

pub set_same : {A : Type 0} (xs : List A) (i : ℕ) (x : A) → slice_get xs i ≡ Some x → slice_set xs i x ≡ xs
set_same [] i x at = refl
set_same (y ∷ xs) zero x at = let here : y ≡ x = cc at in ap (λ z. z ∷ xs) (sym here)
set_same (y ∷ xs) (suc i) x at = ap (λ l. y ∷ l) (set_same xs i x at)

pub get_other : {A : Type 0} (xs : List A) (i j : ℕ) (x : A) → i ≢ j → slice_get (slice_set xs i x) j ≡ slice_get xs j
get_other [] i j x other = refl
get_other (y ∷ xs) zero zero x other = absurd (other refl)
get_other (y ∷ xs) zero (suc j) x other = refl
get_other (y ∷ xs) (suc i) zero x other = refl
get_other (y ∷ xs) (suc i) (suc j) x other = get_other xs i j x (λ e. other (ap suc e))

-- ---- two in a list that is parted between them

module _ {A : Type 0} (f : A → Knows) (xs front back : List A) (i j : ℕ) (x y : A) (parts : xs ≡ front ++ back)
    (size : length front ≡ j) (before : i < j) (within : j < length xs)
  where
    one : A
    one = slice_index_or front i x

    other : A
    other = slice_index_or back 0 y

    at_one : slice_get (map f xs) i ≡ Some (f (slice_index_or front i x))
    at_one = slice_get-map f xs i ∙ ap (option_map f) (slice_get-get_or xs i x (omega arith))
        ∙ ap (λ (l : List A). Some (f (slice_index_or l i x))) parts
        ∙ ap (λ z. Some (f z)) (get_or_append_left front back x i (omega (arith, size)))

    at_other : slice_get (map f xs) j ≡ Some (f (slice_index_or back 0 y))
    at_other =
        let none : j - j ≡ 0 = omega arith in
        slice_get-map f xs j ∙ ap (option_map f) (slice_get-get_or xs j y within)
        ∙ ap (λ (l : List A). Some (f (slice_index_or l j y))) parts
        ∙ ap (λ z. Some (f z)) (get_or-append_right front back j j y size (omega arith))
        ∙ ap (λ n. Some (f (slice_index_or back n y))) none

    together : (x' y' : A) → slice_set front i x' ++ slice_set back 0 y' ≡ slice_set (slice_set xs i x') j y'
    together x' y' =
        let none : j - j ≡ 0 = omega arith in
        sym (ap (λ (l : List A). slice_set (slice_set l i x') j y') parts
        ∙ ap (λ (l : List A). slice_set l j y') (set-append_left front back i x' (omega (arith, size)))
        ∙ set-append_right (slice_set front i x') back j j y' (length-set front i x' ∙ size) (omega arith)
        ∙ ap (λ n. slice_set front i x' ++ slice_set back n y') none)

    pub have_met : (x' y' : A)
        → f x' ≡ record (f (slice_index_or front i x)) {
          seen = max (f (slice_index_or front i x)).seen (f (slice_index_or back 0 y)).seen;
        }
        → f y' ≡ record (f (slice_index_or back 0 y)) {
          seen = max (f (slice_index_or front i x)).seen (f (slice_index_or back 0 y)).seen;
        }
        → HaveMet (map f xs) i j (map f (slice_set front i x' ++ slice_set back 0 y'))
    have_met x' y' first second = (
      f (slice_index_or front i x),
      f (slice_index_or back 0 y),
      at_one,
      at_other,
      ap (map f) (together x' y') ∙ map-set f (slice_set xs i x') j y'
          ∙ ap (λ l. slice_set l j (f y')) (map-set f xs i x')
          ∙ (λ k. slice_set (slice_set (map f xs) i (first k)) j (second k)),
    )

-- ---- whoever meets the last one has met all

pub last_knows : (ks : List Knows) (place : ℕ) (k : Knows) → IsLast ks place → slice_get ks place ≡ Some k
    → k.seen ≡ seen_by ks
last_knows ks place k (inl none) at =
    let empty : slice_get ks place ≡ None = ap (λ (l : List Knows). slice_get l place) none in absurd (cc at)
last_knows ks place k (inr last) at = let same : last.0 ≡ k = let both : Some last.0 ≡ Some k = sym last.1 ∙ at in cc in
    sym (ap (λ (x : Knows). x.seen) same) ∙ last.2

seen_so : (k : Knows) (n : ℕ) → n ≡ k.seen → record k { seen = n } ≡ k
seen_so k n same = ap (λ m. record k { seen = m }) same

module _ (ks : List Knows) (last place : ℕ) (k me : Knows) (is_last : IsLast ks last)
    (at : slice_get ks last ≡ Some k) (there : slice_get ks place ≡ Some me)
  where
    most : max k.seen me.seen ≡ seen_by ks
    most = let low = seen_low ks place me there in let all = last_knows ks last k is_last at in omega (arith, low, all)

    stays_last : last ≢ place → IsLast (slice_set ks place (met ks me)) last
    stays_last other = inr (
      k,
      get_other ks place last (met ks me) (λ e. other (sym e)) ∙ at,
      last_knows ks last k is_last at ∙ sym (seen_set ks place me (met ks me) there (omega arith)),
    )

    after_last : slice_set (slice_set ks last (record k { seen = max k.seen me.seen })) place
        (record me { seen = max k.seen me.seen }) ≡ slice_set ks place (met ks me)
    after_last =
        let all = last_knows ks last k is_last at in
        ap (λ (x : Knows). slice_set (slice_set ks last x) place (record me { seen = max k.seen me.seen }))
        (seen_so k (max k.seen me.seen) (most ∙ sym all))
        ∙ ap (λ (l : List Knows). slice_set l place (record me { seen = max k.seen me.seen })) (set_same ks last k at)
        ∙ ap (λ n. slice_set ks place (record me { seen = n })) most

    before_last : last ≢ place → slice_set (slice_set ks place (record me { seen = max me.seen k.seen })) last
        (record k { seen = max me.seen k.seen }) ≡ slice_set ks place (met ks me)
    before_last other =
        let all = last_knows ks last k is_last at in
        let turned : max me.seen k.seen ≡ seen_by ks = let e = most in omega (arith, e) in
        ap (λ n. slice_set (slice_set ks place (record me { seen = n })) last (record k { seen = n })) turned
        ∙ ap (λ (x : Knows). slice_set (slice_set ks place (met ks me)) last x) (seen_so k (seen_by ks) (sym all))
        ∙ set_same (slice_set ks place (met ks me)) last k
        (get_other ks place last (met ks me) (λ e. other (sym e)) ∙ at)

pub meets_last : (ks ks' : List Knows) (last place : ℕ) → IsLast ks last → last < place → HaveMet ks last place ks'
    → IsMet ks place ks' × IsLast ks' last
meets_last ks ks' last place is_last before h =
    let other : last ≢ place = λ e. absurd (omega (arith, e)) in
    let is = h.4 ∙ after_last ks last place h.0 h.1 is_last h.2 h.3 in (
      (h.1, h.3, is),
      subst (λ l. IsLast l last) (sym is) (stays_last ks last place h.0 h.1 is_last h.2 h.3 other),
    )

pub met_by_last : (ks ks' : List Knows) (last place : ℕ) → IsLast ks last → place < last → HaveMet ks place last ks'
    → IsMet ks place ks' × IsLast ks' last
met_by_last ks ks' last place is_last before h =
    let other : last ≢ place = λ e. absurd (omega (arith, e)) in
    let is = h.4 ∙ before_last ks last place h.1 h.0 is_last h.3 h.2 other in (
      (h.0, h.2, is),
      subst (λ l. IsLast l last) (sym is) (stays_last ks last place h.1 h.0 is_last h.3 h.2 other),
    )

-- the last one itself has met all
pub met_itself : (ks : List Knows) (last place : ℕ) → IsLast ks last → place ≡ last → place < length ks
    → IsMet ks place ks
met_itself ks last place (inl none) same within =
    let empty = ap length none in absurd (omega (arith, empty, within))
met_itself ks last place (inr l) same within =
    let there : slice_get ks place ≡ Some l.0 = ap (slice_get ks) same ∙ l.1 in
    (l.0, there, sym (ap (slice_set ks place) (seen_so l.0 (seen_by ks) (sym l.2)) ∙ set_same ks place l.0 there))
