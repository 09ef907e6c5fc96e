-- The names of sections.
use Rattle.std.proofs.Common.{◌≡◌, ◌<◌, ◌≤◌, ℕ, zero, suc, Bool, true, false, List, [], ◌∷◌, ◌++◌, refl, sym, ap, subst}
use Rattle.std.proofs.Common.{◌∙◌, arith}
use Rattle.std.specs.Prelude.{◌&&◌, ◌||◌, ◌==◌, String, if◌then◌else◌, is_some, nat_le, not, slice_get, string_bytes}
use Rattle.std.specs.BTreeMap.{is_at}
use Rattle.std.specs.BTreeSet.{BTreeSet, IsEmpty, contains_text}
use Rattle.std.specs.Cmp.Lexicographic.{slice_cmp}
use Rattle.std.specs.List.{list_all, list_any}
use Rattle.std.specs.Ordering.{nat_cmp}
use Rattle.std.specs.Str.{IsAscii, IsUtf8, bytes_eq}
use Rattle.std.specs.declared.alloc.Global.{Global}
use Rattle.std.proofs.Math.Bool.{or-false}
use Rattle.std.proofs.lemmas.Bool.{leb-true}
use Rattle.std.proofs.lemmas.List.Folds.{list_any-append}
use Rattle.std.proofs.lemmas.Str.{IsUtf8-from_ascii}
use Rattle.ll_check.specs.Checks.{AreNamed, Reading, at_start, has_section, is_at_head, is_blank, is_name}
use Rattle.ll_check.specs.Checks.{is_of_name, is_section, with_section}

both_so : (a b : Bool) → (a && b) ≡ true → (a ≡ true) × (b ≡ true)
both_so true b e = (refl, e)
both_so false b e = absurd cc

-- ---- a name is a text

below : (b : ℕ) → is_of_name b ≡ true → b < 128
below b is =
    let shown = both_so (nat_le 32 b && nat_le b 126 && not (b == 91)) (not (b == 93)) is in
    let printed = both_so (nat_le 32 b && nat_le b 126) (not (b == 91)) shown.0 in
    let most = leb-true b 126 (both_so (nat_le 32 b) (nat_le b 126) printed.0).1 in
    omega (arith, most)

ascii : (name : List ℕ) → list_all is_of_name name ≡ true → IsAscii name
ascii [] all i = omega arith
ascii (b ∷ name) all zero = below b (both_so (is_of_name b) (list_all is_of_name name) all).0
ascii (b ∷ name) all (suc i) = ascii name (both_so (is_of_name b) (list_all is_of_name name) all).1 i

pub name_is_text : (name : List ℕ) → is_name name ≡ true → IsUtf8 name
name_is_text name is =
    IsUtf8-from_ascii name
    (ascii name (both_so (list_all is_of_name name) (list_any (λ b. not (b == 32)) name) is).0)

-- ---- which names there are

unlike_empty : (section : List ℕ) → is_name section ≡ true → bytes_eq [] section ≡ false
unlike_empty [] is = absurd cc
unlike_empty (b ∷ section) is = refl

pub no_names : (names : BTreeSet (String Global)) (section : List ℕ) → IsEmpty names
    → contains_text names section ≡ false
no_names names section empty =
    ap (list_any (is_at (λ (k : String Global). slice_cmp nat_cmp section (string_bytes k)))) empty

pub none_named : (names : BTreeSet (String Global)) (r : Reading) (file : List ℕ)
    → ((name : List ℕ) → contains_text names name ≡ false) → r ≡ at_start file → AreNamed names r
none_named names r file none e =
    subst (AreNamed names) (sym e) (λ section is. none section ∙ sym (unlike_empty section is))

empty_name : (name : List ℕ) → not (is_some (slice_get name 0)) ≡ true → name ≡ []
empty_name [] e = refl
empty_name (b ∷ name) e = absurd cc

module _ (r : Reading) (name section : List ℕ) (is : is_name section ≡ true) where
  kept : (blank : Bool) → is_blank r.last ≡ blank
      → list_any (is_section section) (if blank then r.done else r.done ++ r.last ∷ []) ≡ has_section r section
  kept false e =
      list_any-append (is_section section) r.done (r.last ∷ [])
      ∙ ap (λ b. list_any (is_section section) r.done || b) (or-false (is_section section r.last))
  kept true e =
      let empty = empty_name r.last.section
      (both_so (not (is_some (slice_get r.last.section 0))) (is_at_head r.last) e).0 in
      let other : is_section section r.last ≡ false =
      ap (λ (n : List ℕ). bytes_eq n section) empty ∙ unlike_empty section is in
      sym (ap (λ b. list_any (is_section section) r.done || b) other
      ∙ or-false (list_any (is_section section) r.done))

  one_section_more : has_section (with_section r name) section ≡ (has_section r section || bytes_eq name section)
  one_section_more = ap (λ b. b || bytes_eq name section) (kept (is_blank r.last) refl)

  other_way : (b x : Bool) → (if b then true else x) ≡ (x || b)
  other_way true true = refl
  other_way true false = refl
  other_way false true = refl
  other_way false false = refl

module _ (names names' : BTreeSet (String Global)) (before after : Reading) (are : AreNamed names before) where
  pub section_named : (name : List ℕ)
      → ((other : List ℕ) → contains_text names' other
      ≡ (if bytes_eq name other then true else contains_text names other))
      → after ≡ with_section before name → AreNamed names' after
  section_named name add e = subst (AreNamed names') (sym e) (λ section is.
      add section ∙ ap (λ b. if bytes_eq name section then true else b) (are section is)
      ∙ other_way before name section is (bytes_eq name section) (has_section before section)
      ∙ sym (one_section_more before name section is))
