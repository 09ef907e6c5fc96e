-- Which texts spell a path.
use Rattle.std.proofs.Common.{◌≡◌, ◌==◌, ℕ, suc, ◌<◌, ◌≤◌, Bool, true, false, ◌&&◌, List, [], ◌∷◌, length, drop, nat_le}
use Rattle.std.proofs.Common.{refl, ap, arith, inl, inr}
use Rattle.std.specs.List.{AllByRecursion, list_all}
use Rattle.std.proofs.lemmas.Bool.{and_parts, cases_Bool, eqb-true}
use Rattle.std.proofs.lemmas.Bool.Decides.{nat_tests}
use Rattle.ll_rights.specs.declared.errno.Errno.{Errno}
use Rattle.ll_path.specs.Word.{IsVisible, IsWord}
use Rattle.ll_path.specs.Path.{path_refusals}
use Rattle.ll_path.proofs.PathLemmas.{spells_path}
use Rattle.ll_policy.specs.Value.{is_path}

abbrev is_visible : ℕ → Bool
is_visible b = nat_le 0x21 b && nat_le b 0x7e

is_visible-yes : (b : ℕ) → 0x21 ≤ b → b ≤ 0x7e → is_visible b ≡ true
is_visible-yes b low high = grind (arith, nat_tests)

visible_from_test : (b : ℕ) → is_visible b ≡ true → IsVisible b
visible_from_test b e = let parts = and_parts (nat_le 0x21 b) (nat_le b 0x7e) e in let (low, high) = parts in
    (grind (arith, nat_tests), grind (arith, nat_tests))

all_tested : (text : List ℕ) → AllByRecursion IsVisible text → list_all is_visible text ≡ true
all_tested [] h = refl
all_tested (b ∷ text) h = rw (is_visible-yes b h.0.0 h.0.1) (all_tested text h.1)

all_visible : (text : List ℕ) → list_all is_visible text ≡ true → AllByRecursion IsVisible text
all_visible [] e = tt
all_visible (b ∷ text) e = let parts = and_parts (is_visible b) (list_all is_visible text) e in
    (visible_from_test b parts.0, all_visible text parts.1)

no_refusals : (errnos : List Errno) → (length errnos == 0) ≡ true → errnos ≡ []
no_refusals [] e = refl
no_refusals (errno ∷ errnos) e = absurd (omega (arith, eqb-true (suc (length errnos)) 0 e))

slash_first : (text rest : List ℕ) → text ≡ 47 ∷ rest → 0 < length text
slash_first text rest e = omega (arith, ap length e)

word_of_path : (text : List ℕ) → is_path text ≡ true → IsWord text
word_of_path text e =
    let parts = and_parts (list_all is_visible text) (length (path_refusals text) == 0) e in
    let spells = spells_path text (no_refusals (path_refusals text) parts.1) in
    let fits : length text ≤ 4095 = spells.fits in
    (slash_first text (drop 1 text) spells.slash, omega arith, all_visible text parts.0)

pub is_path-spelled : (text : List ℕ) → IsWord text → path_refusals text ≡ [] → is_path text ≡ true
is_path-spelled text word none = rw (all_tested text word.2, none) refl

pub is_path-no_word : (text : List ℕ) → (IsWord text → ⊥) → is_path text ≡ false
is_path-no_word text other = elim (cases_Bool (is_path text)) [
  | inl spelled ↦ absurd (other (word_of_path text spelled))
  | inr differs ↦ differs
]
