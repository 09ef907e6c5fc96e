-- What a binary search finds in rows whose keys rise.
use Rattle.std.proofs.Common.{◌≡◌, ℕ, zero, suc, ◌<◌, ◌≤◌, true, cond, T, List, [], ◌∷◌, length, get_or, Some, None}
use Rattle.std.proofs.Common.{Result, Ok, Err, IfOk, IfErr, refl, ap, sym, ◌∙◌, subst, inl, inr, arith}
use Rattle.std.specs.Prelude.{slice_get, ◌⊎◌}
use Rattle.std.specs.declared.cmp.Ordering.{Ordering}
use Rattle.std.specs.declared.cmp.Ordering.TheVariants.{Less, Equal, Greater}
use Rattle.std.specs.Ordering.{is_gt, is_eq, ordering_index, ordering_reverse}
use Rattle.std.specs.Cmp.{IsTotalOrder, alike_right}
use Rattle.std.specs.FinMap.{IsAntisymmetric}
use Rattle.std.specs.FinMap.Entries.{find, below_all, is_sorted}
use Rattle.std.specs.List.Sorted.{IsSearchInRange, IsBinarySearchResult, IsNonDecreasingBy}
use Rattle.std.proofs.lemmas.Bool.{cases_lt}
use Rattle.std.proofs.lemmas.Option.{slice_get_cases}
use Rattle.ll_rights.proofs.Places.{place}
use Rattle.ll_seq.proofs.DentryRows.{both, lower, found_of_row}

-- what a binary search for the key answers
pub record Searched {K V : Type 0} (R : K → K → Ordering) (rows : List (K × V)) (k : K) (r : Result ℕ ℕ) : Type 0 where
  pub within : IfOk r (λ i. i < length rows)
  pub row : IfOk r (λ i. (v : V) × (find R k rows ≡ Some v) × (slice_get rows i ≡ Some (k, v)))
  pub none : IfErr r (λ i. find R k rows ≡ None)
  pub place : IfErr r (λ i. i ≡ place R k rows)
  pub most : IfErr r (λ i. i ≤ length rows)

module _ {K : Type 0} {R : K → K → Ordering} (o : IsTotalOrder R) (k : K) where
  -- what is before stands to the key as before or more so
  later : (x y : K) (r : Ordering) → R x y ≡ Less → R y k ≡ r → ordering_index (R x k) ≤ ordering_index r
  later x y Less less at = let same = ap ordering_index (o.trans x y k less at) in omega arith
  later x y Equal less at = let same = ap ordering_index (sym (alike_right o y k x at) ∙ less) in omega arith
  later x y Greater less at = most (R x k)
    where
      most : (r : Ordering) → ordering_index r ≤ 2
      most Less = omega arith
      most Equal = omega arith
      most Greater = omega arith

module _ {K V : Type 0} {R : K → K → Ordering} (o : IsTotalOrder R) (exact : IsAntisymmetric R) where
  read : (es : List (K × V)) (j : ℕ) (d : K × V) → j < length es → slice_get es j ≡ Some (get_or es j d)
  read [] j d lt = absurd (omega arith)
  read (e ∷ es) zero d lt = refl
  read (e ∷ es) (suc j) d lt = read es j d (omega arith)

  -- a row's key is below that of a later one
  pub rising : (rows : List (K × V)) (i j : ℕ) (d : K × V) → T (is_sorted R rows) → i < j → j < length rows
      → R (get_or rows i d).0 (get_or rows j d).0 ≡ Less
  rising [] i j d h lt within = absurd (omega arith)
  rising (e ∷ es) i zero d h lt within = absurd (omega arith)
  rising (e ∷ es) zero (suc j) d h lt within =
      let far : j < length es = omega arith in
      lower o exact e.0 es j (get_or es j d) (both (below_all R e.0 es) (is_sorted R es) h).0 (read es j d far)
  rising (e ∷ es) (suc i) (suc j) d h lt within =
      rising es i j d (both (below_all R e.0 es) (is_sorted R es) h).1 (omega arith) (omega arith)

  module _ (k : K) where
    rises : (rows : List (K × V)) → T (is_sorted R rows)
        → IsNonDecreasingBy (λ (y : K × V). ordering_index (R y.0 k)) rows
    rises rows h i j d le within = elim (cases_lt i j) [
      | inl lt ↦ later o k (get_or rows i d).0 (get_or rows j d).0 (R (get_or rows j d).0 k)
          (rising rows i j d h lt within) refl
      | inr ge ↦ let same : i ≡ j = omega arith in let alike =
          ap (λ n. ordering_index (R (get_or rows n d).0 k)) same in omega arith
    ]

    -- where rows stop being before the key and begin to be behind it
    gap : (rows : List (K × V)) (i : ℕ) → i ≤ length rows
        → ((j : ℕ) (d : K × V) → j < i → R (get_or rows j d).0 k ≡ Less)
        → ((j : ℕ) (d : K × V) → i ≤ j → j < length rows → R (get_or rows j d).0 k ≡ Greater)
        → (find R k rows ≡ None) × (i ≡ place R k rows)
    gap [] i within before behind = (refl, omega arith)
    gap (e ∷ es) zero within before behind =
        let at : R k e.0 ≡ Less = o.antisymm k e.0 ∙ ap ordering_reverse (behind 0 e (omega arith) (omega arith)) in
        let rest = gap es zero (omega arith) (λ j d lt. absurd (omega arith))
        (λ j d le lt. behind (suc j) d (omega arith) (omega arith)) in (
          ap (λ r. cond (is_eq r) (Some e.1) (find R k es)) at
              ∙ rest.0,
          sym (ap (λ r. cond (is_gt r) (suc (place R k es)) 0) at),
        )
    gap (e ∷ es) (suc i) within before behind =
        let at : R k e.0 ≡ Greater = o.antisymm k e.0 ∙ ap ordering_reverse (before 0 e (omega arith)) in
        let rest = gap es i (omega arith) (λ j d lt. before (suc j) d (omega arith))
        (λ j d le lt. behind (suc j) d (omega arith) (omega arith)) in (
          ap (λ r. cond (is_eq r) (Some e.1) (find R k es)) at ∙ rest.0,
          ap suc rest.1
              ∙ sym (ap (λ r. cond (is_gt r) (suc (place R k es)) 0) at),
        )

    -- what a binary search says of such rows
    pub searched : (rows : List (K × V)) (r : Result ℕ ℕ) → is_sorted R rows ≡ true → IsSearchInRange r (length rows)
        → IsBinarySearchResult (λ (y : K × V). R y.0 k) rows r
        → Searched R rows k r
    searched rows (Ok i) s within equal =
        record { within = within; row = found (slice_get_cases rows i).1; none = tt; place = tt; most = tt }
      where
        found : ((x : K × V) × (i < length rows) × (slice_get rows i ≡ Some x) × (get_or rows i x ≡ x))
            ⊎ ((length rows ≤ i) × (slice_get rows i ≡ None)) → (v : V) × (find R k rows ≡ Some v)
            × (slice_get rows i ≡ Some (k, v))
        found (inl x) =
            let key : x.0.0 ≡ k = exact x.0.0 k (sym (ap (λ (y : K × V). R y.0 k) x.3) ∙ equal x.0) in (
              x.0.1,
              ap (λ n. find R n rows) (sym key) ∙ found_of_row o exact rows i x.0 (subst T (sym s) tt) x.2,
              x.2
                  ∙ ap (λ n. Some (n, x.0.1)) key,
            )
        found (inr past) = absurd (omega (arith, past.0))
    searched rows (Err i) s within parted =
        let split = parted (rises rows (subst T (sym s) tt)) in
        let is = gap rows i within (λ j d lt. split.0 j d (omega arith) lt) (λ j d le lt. split.1 j d le lt) in
        record { within = tt; row = tt; none = is.0; place = is.1; most = within }
