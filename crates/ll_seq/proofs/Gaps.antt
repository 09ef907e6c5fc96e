-- The first number that no row of a table has.
use Rattle.std.proofs.Common.{◌≡◌, ◌≢◌, ℕ, zero, suc, ◌+◌, true, ◌<◌, ◌≤◌, List, [], ◌∷◌, length, get_or, Option, Some}
use Rattle.std.proofs.Common.{None, refl, sym, ap, subst, inl, inr, ◌∙◌, arith}
use Rattle.std.specs.Prelude.{T, slice_get}
use Rattle.std.specs.declared.cmp.Ordering.TheVariants.{Less}
use Rattle.std.specs.Ordering.{nat_cmp}
use Rattle.std.specs.Cmp.{nat_cmp_total}
use Rattle.std.specs.FinMap.{nat_cmp-IsAntisymmetric}
use Rattle.std.specs.FinMap.Entries.{find, below_all, is_sorted}
use Rattle.std.proofs.lemmas.Bool.{cases_lt}
use Rattle.std.proofs.lemmas.Cmp.{ranked}
use Rattle.std.proofs.lemmas.Option.{get_or_from_slice_get, slice_get_within}
use Rattle.ll_seq.proofs.DentryRows.{both, lower, row_of_found}

module _ {V : Type 0} where
  -- each row before one is there, and has a lower number
  before : (rows : List (ℕ × V)) (i j : ℕ) (row : ℕ × V) → T (is_sorted nat_cmp rows) → j < i
      → slice_get rows i ≡ Some row → (r : ℕ × V) × (slice_get rows j ≡ Some r) × (r.0 < row.0)
  before [] i j row sorted lt at = absurd cc
  before (e ∷ rows) zero j row sorted lt at = absurd (omega arith)
  before (e ∷ rows) (suc i) zero row sorted lt at =
      let parts = both (below_all nat_cmp e.0 rows) (is_sorted nat_cmp rows) sorted in
      (e, refl, ranked e.0 row.0 Less (sym (lower nat_cmp_total nat_cmp-IsAntisymmetric e.0 rows i row parts.0 at)))
  before (e ∷ rows) (suc i) (suc j) row sorted lt at =
      before rows i j row (both (below_all nat_cmp e.0 rows) (is_sorted nat_cmp rows) sorted).1 (omega arith) at

  -- a row's number is no lower than its place
  at_least : (rows : List (ℕ × V)) (j : ℕ) (row : ℕ × V) → T (is_sorted nat_cmp rows) → slice_get rows j ≡ Some row
      → j ≤ row.0
  at_least rows zero row sorted at = omega arith
  at_least rows (suc j) row sorted at =
      let low = before rows (suc j) j row sorted (omega arith) at in
      let least = at_least rows j low.0 sorted low.1 in
      let less = low.2 in
      omega arith

  abbrev Numbered : List (ℕ × V) → ℕ → Type 0
  Numbered rows n = (k : ℕ) (row : ℕ × V) → k < n → slice_get rows k ≡ Some row → row.0 ≡ k

  -- a place is found nowhere as a number where the rows before it have theirs, and its own doesn't
  gap : (rows : List (ℕ × V)) (n : ℕ) → T (is_sorted nat_cmp rows) → Numbered rows n
      → ((row : ℕ × V) → slice_get rows n ≡ Some row → row.0 ≢ n) → find nat_cmp n rows ≡ None
  gap rows n sorted early own = by (find nat_cmp n rows) refl
    where
      by : (o : Option V) → find nat_cmp n rows ≡ o → o ≡ None
      by None e = refl
      by (Some v) e =
          let there = row_of_found nat_cmp_total nat_cmp-IsAntisymmetric rows n v e in
          absurd (elim (cases_lt there.0 n) [
            | inl lt ↦ (let same : n ≡ there.0 = early there.0 (n, v) lt there.1 in omega arith)
            | inr le ↦ elim (cases_lt n there.0) [
              | inl lt ↦ (let low = before rows there.0 n (n, v) sorted lt there.1
                  in let least = at_least rows n low.0 sorted low.1 in let less = low.2 in omega arith)
              | inr ge ↦ (let same : there.0 ≡ n = omega arith
                  in own (n, v) (ap (slice_get rows) (sym same) ∙ there.1) refl)
            ]
          ])

  -- a loop over the rows that stops at the first whose number isn't its place
  pub numbered_more : (rows : List (ℕ × V)) (i : ℕ) (row : ℕ × V) → row ≡ get_or rows i row → row.0 ≡ i
      → Numbered rows i → Numbered rows (i + 1)
  numbered_more rows i row is here early k r lt at = elim (cases_lt k i) [
    | inl below ↦ early k r below at
    | inr above ↦ (
        let same : k ≡ i = omega arith in
        ap (λ (z : ℕ × V). z.0) (sym (get_or_from_slice_get rows i r row (ap (slice_get rows) (sym same) ∙ at))
        ∙ sym is) ∙ here ∙ sym same)
  ]

  pub gap_at : (rows : List (ℕ × V)) (i : ℕ) (row : ℕ × V) → is_sorted nat_cmp rows ≡ true → Numbered rows i
      → row ≡ get_or rows i row → row.0 ≢ i → find nat_cmp i rows ≡ None
  gap_at rows i row sorted early is other =
      gap rows i (subst T (sym sorted) tt) early
      (λ r at same. other (ap (λ (z : ℕ × V). z.0) (is ∙ get_or_from_slice_get rows i r row at) ∙ same))

  pub gap_after : (rows : List (ℕ × V)) (i : ℕ) → is_sorted nat_cmp rows ≡ true → Numbered rows i → length rows ≤ i
      → i ≤ length rows → find nat_cmp (length rows) rows ≡ None
  gap_after rows i sorted early past most =
      gap rows (length rows) (subst T (sym sorted) tt) (λ k r lt at. early k r (omega arith) at)
      (λ r at same. let within = slice_get_within rows (length rows) r at in absurd (omega arith))
