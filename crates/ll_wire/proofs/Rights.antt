-- A text is the text of one set of rights.
use Rattle.std.proofs.Common.{◌≡◌, ℕ, zero, suc, ◌+◌, ◌*◌, ◌/◌, ◌%◌, ◌^◌, ◌<◌, ◌≤◌, ◌≢◌, true, false, List, [], ◌∷◌}
use Rattle.std.proofs.Common.{get_or, drop, codes, refl, ap, sym, ◌∙◌, subst, arith, inl, inr}
use Rattle.std.specs.Prelude.{◌==◌, if◌then◌else◌}
use Rattle.std.specs.List.{position_or_len, range_with_len, slice_split}
use Rattle.std.specs.Str.{bytes_eq}
use Rattle.std.specs.Str.Parse.{digits_value, without_leading_plus}
use Rattle.std.proofs.Math.Nat.{mod-eq_of_lt}
use Rattle.std.proofs.lemmas.Nat.{mod-pow-add}
use Rattle.std.proofs.lemmas.Bool.{cases_lt, cases_Bool, ne_eqb, eqb-true, eqb-false, agree_below_at}
use Rattle.std.proofs.lemmas.Slice.Eq.{bytes_eq-Decides}
use Rattle.ll_rights.specs.Right.{right_names, right_text}
use Rattle.ll_rights.specs.Access.{holds, names_among, set_names, access_text}
use Rattle.ll_rights.proofs.RightNames.{names_yes, names_no, names_end, text_none, text_number, parts_of_text}
use Rattle.ll_rights.proofs.RightNames.{letter_of_text}
use Rattle.ll_rights.proofs.Hex.{reads_back}

-- ---- the set whose names these are

place_of : List ℕ → ℕ
place_of name = position_or_len (λ other. bytes_eq other name) right_names

placed : (right : ℕ) → right < 15 → place_of (right_text right) ≡ right
unfolding place_of
placed right known = eqb-true _ _ (agree_below_at (λ k. place_of (right_text k) == k) (λ _. true) 15 right refl known)

-- a text is the name of one right
pub same_right : (some other : ℕ) → some < 15 → other < 15 → right_text some ≡ right_text other → some ≡ other
same_right some other h k e = sym (placed some h) ∙ ap place_of e ∙ placed other k

no_place : place_of (codes "none") ≡ 15
unfolding place_of
no_place = refl

abbrev set_of : List (List ℕ) → ℕ
set_of [] = 0
set_of (name ∷ names) = 2 ^ place_of name + set_of names

abbrev rights_from : ℕ → ℕ → List ℕ
rights_from first count = range_with_len first count

-- with the rights before the first, these are all of the set's
set_of_names : (first count set : ℕ) → first + count ≤ 15 → set < 2 ^ (first + count)
    → set_of (names_among (rights_from first count) set) + set % 2 ^ first ≡ set
set_of_names first zero set fit small =
    let same : first + 0 ≡ first = omega arith in
    let low : set % 2 ^ first ≡ set = mod-eq_of_lt (subst (λ n. set < 2 ^ n) same small) in
    rw (names_end set) (omega arith)
set_of_names first (suc count) set fit small =
    let next : first + suc count ≡ first + 1 + count = omega arith in
    let inner = set_of_names (first + 1) count set (omega arith) (subst (λ n. set < 2 ^ n) next small) in
    let more : 1 + first ≡ first + 1 = omega arith in
    let step : set % 2 ^ (first + 1) ≡ (set / 2 ^ first % 2) * 2 ^ first + set % 2 ^ first =
    ap (λ n. set % 2 ^ n) (sym more) ∙ mod-pow-add set 1 first in
    elim (cases_Bool (holds set first)) [
      | inl there ↦ (
          let bit : set / 2 ^ first % 2 ≡ 1 = eqb-true _ _ there in
          let weight : 2 ^ place_of (right_text first) ≡ 2 ^ first = ap (λ n. 2 ^ n) (placed first (omega arith)) in
          let high : set % 2 ^ (first + 1) ≡ 1 * 2 ^ first + set % 2 ^ first =
          step ∙ ap (λ b. b * 2 ^ first + set % 2 ^ first) bit in
          rw (names_yes first (rights_from (first + 1) count) set there) (omega arith))
      | inr missing ↦ (
          let bit : set / 2 ^ first % 2 ≡ 0 = omega (arith, not_one (set / 2 ^ first % 2) missing) in
          let high : set % 2 ^ (first + 1) ≡ 0 * 2 ^ first + set % 2 ^ first =
          step ∙ ap (λ b. b * 2 ^ first + set % 2 ^ first) bit in
          rw (names_no first (rights_from (first + 1) count) set missing) (omega arith))
    ]
  where
    not_one : (n : ℕ) → (n == 1) ≡ false → n ≢ 1
    not_one n e = eqb-false n 1 e

set_of_own : (set : ℕ) → set < 2 ^ 15 → set_of (set_names set) ≡ set
set_of_own set small = omega (arith, set_of_names 0 15 set (omega arith) small)

-- ---- the set whose text this is

abbrev cut : List ℕ → List (List ℕ)
cut text = slice_split (λ b. b == 44) text

abbrev spelled_set : List ℕ → ℕ
spelled_set text = if bytes_eq text (codes "none") then 0 else if get_or text 0 0 == 48 then digits_value 16
    (without_leading_plus (drop 2 text)) else set_of (cut text)

not_none : (set : ℕ) → 0 < set → set < 2 ^ 15 → bytes_eq (access_text set) (codes "none") ≡ false
not_none set some known = elim (cases_Bool (bytes_eq (access_text set) (codes "none"))) [
  | inr other ↦ other
  | inl none ↦ (
      let same : access_text set ≡ codes "none" = (bytes_eq-Decides (access_text set) (codes "none")).0 none in
      let value : set_of (cut (codes "none")) ≡ set =
      ap (λ (t : List ℕ). set_of (cut t)) (sym same) ∙ ap set_of (parts_of_text set some known)
      ∙ set_of_own set known in
      let place : 2 ^ place_of (codes "none") ≡ 2 ^ 15 = ap (λ n. 2 ^ n) no_place in
      absurd (omega arith))
]

spelled_set-text : (set : ℕ) → spelled_set (access_text set) ≡ set
spelled_set-text set = elim (cases_lt 0 set) [
  | inr le ↦ (let zero_is : set ≡ 0 = omega arith in rw (zero_is, text_none) refl)
  | inl some ↦ elim (cases_lt set 32768) [
    | inl known ↦ (
        let letter : (get_or (access_text set) 0 0 == 48) ≡ false =
        ne_eqb _ _ (λ e. omega (arith, letter_of_text set some known)) in
        rw (not_none set some known, letter) (ap set_of (parts_of_text set some known) ∙ set_of_own set known))
    | inr unknown ↦ rw (text_number set unknown) (reads_back set some).value
  ]
]

pub same_set : (some other : ℕ) → access_text some ≡ access_text other → some ≡ other
same_set some other e = sym (spelled_set-text some) ∙ ap spelled_set e ∙ spelled_set-text other
