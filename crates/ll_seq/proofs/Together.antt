-- The entries of a directory stand together.
use Rattle.std.proofs.Common.{◌≡◌, ◌==◌, ℕ, zero, suc, ◌-◌, ◌≤◌, Bool, true, false, cond, T, List, [], ◌∷◌, length}
use Rattle.std.proofs.Common.{filter, take, drop, get_or, ltb, leb, refl, ap, sym, ◌∙◌, subst, inl, inr, arith}
use Rattle.std.specs.declared.cmp.Ordering.{Ordering}
use Rattle.std.specs.declared.cmp.Ordering.TheVariants.{Less}
use Rattle.std.specs.Ordering.{nat_cmp, ordering_then}
use Rattle.std.specs.FinMap.Entries.{is_sorted}
use Rattle.std.specs.List.Sorted.{IsNonDecreasingBy, IsPartitionPoint}
use Rattle.std.proofs.lemmas.Bool.{cases_lt}
use Rattle.std.proofs.lemmas.Bool.Decides.{nat_tests}
use Rattle.ll_seq.specs.declared.dentries.Dentry.{Dentry}
use Rattle.ll_seq.specs.State.{dentry_cmp}
use Rattle.ll_seq.proofs.DentryOrder.{dentry_total, dentry_exact}
use Rattle.ll_seq.proofs.Searches.{rising}

abbrev of_row : Dentry × ℕ → ℕ
of_row e = e.0.directory

no_higher : (a b : ℕ) (r : Ordering) → ordering_then (nat_cmp a b) r ≡ Less → a ≤ b
no_higher a b r less = grind (arith, nat_tests)

pub directories_rise : (rows : List (Dentry × ℕ)) → is_sorted dentry_cmp rows ≡ true → IsNonDecreasingBy of_row rows
directories_rise rows s i j d le within = elim (cases_lt i j) [
  | inl lt ↦ no_higher (get_or rows i d).0.directory (get_or rows j d).0.directory _
      (rising dentry_total dentry_exact rows i j d (subst_true s) lt within)
  | inr ge ↦ let same : i ≡ j = omega arith in let alike = ap (λ n. (get_or rows n d).0.directory) same in omega arith
]
  where
    subst_true : {b : Bool} → b ≡ true → T b
    subst_true e = subst T (sym e) tt

module _ (directory : ℕ) where
  abbrev before : Dentry × ℕ → Bool
  before e = ltb e.0.directory directory

  abbrev upto : Dentry × ℕ → Bool
  upto e = leb e.0.directory directory

  abbrev in_it : Dentry × ℕ → Bool
  in_it e = e.0.directory == directory

  -- those before the directory end no later than those up to it
  pub in_order : (rows : List (Dentry × ℕ)) (start end : ℕ) → start ≤ length rows
      → IsPartitionPoint (λ e. before e ≡ true) (λ e. before e ≡ false) rows start
      → IsPartitionPoint (λ e. upto e ≡ true) (λ e. upto e ≡ false) rows end → start ≤ end
  in_order [] start end within low high = omega arith
  in_order (e ∷ es) start end within low high = elim (cases_lt end start) [
    | inl lt ↦ let less = low.0 end e (omega arith) lt in let more = high.1 end e (omega arith) (omega arith) in
        absurd (grind (arith, nat_tests))
    | inr ge ↦ ge
  ]

  -- those between are the directory's
  pub between : (rows : List (Dentry × ℕ)) (start end : ℕ) → start ≤ length rows
      → IsPartitionPoint (λ e. before e ≡ true) (λ e. before e ≡ false) rows start
      → IsPartitionPoint (λ e. upto e ≡ true) (λ e. upto e ≡ false) rows end
      → take (end - start) (drop start rows) ≡ filter in_it rows
  between [] start end within low high = nothing start (end - start)
    where
      nothing : (n m : ℕ) → take {A = Dentry × ℕ} m (drop n []) ≡ []
      nothing zero zero = refl
      nothing zero (suc m) = refl
      nothing (suc n) zero = refl
      nothing (suc n) (suc m) = refl
  between (e ∷ es) zero zero within low high =
      let past : in_it e ≡ false = let more = high.1 0 e (omega arith) (omega arith) in grind (arith, nat_tests) in
      let rest = between es zero zero (omega arith)
      (λ k d le lt. absurd (omega arith), λ k d le lt. low.1 (suc k) d (omega arith) (omega arith))
      (λ k d le lt. absurd (omega arith), λ k d le lt. high.1 (suc k) d (omega arith) (omega arith)) in
      rest ∙ sym (ap (λ b. cond b (e ∷ filter in_it es) (filter in_it es)) past)
  between (e ∷ es) zero (suc end) within low high =
      let here : in_it e ≡ true = let less = low.1 0 e (omega arith) (omega arith) in let more =
      high.0 0 e (omega arith) (omega arith) in grind (arith, nat_tests) in
      let rest = between es zero end (omega arith)
      (λ k d le lt. absurd (omega arith), λ k d le lt. low.1 (suc k) d (omega arith) (omega arith)) (
        λ k d le lt. high.0 (suc k) d (omega arith) (omega arith),
        λ k d le lt. high.1 (suc k) d (omega arith) (omega arith),
      ) in
      let more : suc end - 0 ≡ suc (end - 0) = omega arith in
      ap (λ n. take n (e ∷ es)) more ∙ ap (λ xs. e ∷ xs) rest
      ∙ sym (ap (λ b. cond b (e ∷ filter in_it es) (filter in_it es)) here)
  between (e ∷ es) (suc start) zero within low high =
      absurd (let le = in_order (e ∷ es) (suc start) zero within low high in omega arith)
  between (e ∷ es) (suc start) (suc end) within low high =
      let short : in_it e ≡ false = let less = low.0 0 e (omega arith) (omega arith) in grind (arith, nat_tests) in
      let rest = between es start end (omega arith) (
        λ k d le lt. low.0 (suc k) d (omega arith) (omega arith),
        λ k d le lt. low.1 (suc k) d (omega arith) (omega arith),
      ) (
        λ k d le lt. high.0 (suc k) d (omega arith) (omega arith),
        λ k d le lt. high.1 (suc k) d (omega arith) (omega arith),
      ) in
      let less : suc end - suc start ≡ end - start = omega arith in
      ap (λ n. take n (drop start es)) less ∙ rest
      ∙ sym (ap (λ b. cond b (e ∷ filter in_it es) (filter in_it es)) short)
