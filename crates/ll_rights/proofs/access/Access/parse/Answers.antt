use Rattle.std.proofs.Common.{◌≡◌, ◌≢◌, ℕ, ◌<◌, ◌≤◌, ◌^◌, List, ◌∷◌, ◌++◌, false, Option, Some, None, IfSome, IfNone}
use Rattle.std.proofs.Common.{codes, drop, map, get_or, sym, ap, ◌∙◌, inl, inr, arith}
use Rattle.std.specs.Prelude.{◌==◌}
use Rattle.std.specs.Char.{digit_char}
use Rattle.std.specs.Int.Digits.{digits_of}
use Rattle.std.specs.List.{slice_split}
use Rattle.std.specs.Str.{bytes_eq}
use Rattle.std.proofs.lemmas.Bool.{cases_lt, false≢true}
use Rattle.std.proofs.lemmas.Slice.Eq.{bytes_eq-Decides}
use Rattle.ll_rights.specs.Access.{set_names, access_text}
use Rattle.ll_rights.specs.declared.access.Access.{Access}
use Rattle.ll_rights.proofs.RightNames.{text_none, text_number, text_from_names, parts_of_text, letter_of_text}
use Rattle.ll_rights.proofs.access.Access.parse.Goals as goal

pub returns-then-eq-clause-found : goal.returns-then-eq-clause-found
returns-then-eq-clause-found c =
    (bytes_eq-Decides c.args.text.now (codes "none")).0 (sym c.if-eq.ensures) ∙ sym text_none

-- a text that is not `none` is no text where it is neither names nor a number
no_text : (text : List ℕ) → bytes_eq text (codes "none") ≡ false
    → ((set : ℕ) → 0 < set → set < 2 ^ 15 → text ≢ access_text set)
    → ((set : ℕ) → 2 ^ 15 ≤ set → set < 2 ^ 64 → text ≢ codes "0x" ++ map digit_char (digits_of 16 set))
    → (set : ℕ) → set < 2 ^ 64 → text ≢ access_text set
no_text text other not_names not_number set small same = elim (cases_lt 0 set) [
  | inr le ↦ (
      let empty : set ≡ 0 = omega arith in
      false≢true (sym other ∙ (bytes_eq-Decides text (codes "none")).1 (same ∙ ap access_text empty ∙ text_none)))
  | inl some ↦ elim (cases_lt set 32768) [
    | inl known ↦ not_names set some known same
    | inr unknown ↦ not_number set unknown small (same ∙ text_number set unknown)
  ]
]

whole : (text digits : List ℕ) (n : ℕ) → n ≡ 2 → text ≡ codes "0x" ++ drop n text → digits ≡ drop n text
    → text ≡ codes "0x" ++ digits
whole text digits n two front rest = front ∙ ap (λ (ds : List ℕ). codes "0x" ++ ds) (sym rest)

number_text : (text digits : List ℕ) → text ≡ codes "0x" ++ digits → (r : Option Access)
    → IfSome r (λ access. (2 ^ 15 ≤ access.0) × (digits ≡ map digit_char (digits_of 16 access.0)))
    → IfSome r (λ access. text ≡ access_text access.0)
number_text text digits front None found = tt
number_text text digits front (Some access) found =
    front ∙ ap (λ (ds : List ℕ). codes "0x" ++ ds) found.1 ∙ sym (text_number access.0 found.0)

names_text : (text : List ℕ) (r : Option Access)
    → IfSome r (λ access. (access.0 < 2 ^ 15) × (slice_split (λ b. b == 44) text ≡ set_names access.0))
    → IfSome r (λ access. text ≡ access_text access.0)
names_text text None found = tt
names_text text (Some access) found = text_from_names text access.0 found.0 found.1

none_then : {A P Q : Type 0} (r : Option A) → (P → Q) → IfNone r P → IfNone r Q
none_then None f p = f p
none_then (Some a) f p = tt

same_rest : (xs ys : List ℕ) → ◌≡◌ {A = List ℕ} (48 ∷ 120 ∷ xs) (48 ∷ 120 ∷ ys) → xs ≡ ys
same_rest xs ys e = cc

pub returns-in-Some-clause-found : goal.returns-in-Some-clause-found
returns-in-Some-clause-found c =
    let cut = c.in-Some.ensures.cases in
    let text = whole c.args.text.now c.in-Some.digits.now cut.0 cut.1.0 cut.1.1 cut.2 in
    number_text c.args.text.now c.in-Some.digits.now text _ c.parse_number.ensures.found

pub returns-in-Some-clause-none : goal.returns-in-Some-clause-none
returns-in-Some-clause-none c =
    let cut = c.in-Some.ensures.cases in
    let text = whole c.args.text.now c.in-Some.digits.now cut.0 cut.1.0 cut.1.1 cut.2 in
    let digit : get_or c.args.text.now 0 0 ≡ 48 = ap (λ (bs : List ℕ). get_or bs 0 0) text in
    none_then _
    (λ no_number. no_text c.args.text.now (sym c.if-eq.ensures)
    (λ set some known same. omega
    (arith, digit, ap (λ (bs : List ℕ). get_or bs 0 0) same, letter_of_text set some known))
    (λ set unknown small same. no_number set unknown small (same_rest _ _ (sym text ∙ same))))
    c.parse_number.ensures.none

pub returns-in-None-clause-found : goal.returns-in-None-clause-found
returns-in-None-clause-found c = names_text c.args.text.now _ c.parse_names.ensures.found

pub returns-in-None-clause-none : goal.returns-in-None-clause-none
returns-in-None-clause-none c = none_then _
    (λ no_names. no_text c.args.text.now (sym c.if-eq.ensures)
    (λ set some known same. no_names set (ap (slice_split (λ b. b == 44)) same ∙ parts_of_text set some known))
    (λ set unknown small same. c.in-None.ensures.cases _ same))
    c.parse_names.ensures.none
