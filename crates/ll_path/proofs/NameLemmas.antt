-- What `same_name` tells, and the names between the slashes of a text.
use Rattle.std.proofs.Common.{◌≡◌, ◌≢◌, ◌==◌, ℕ, ◌<◌, Bool, true, false, ◌||◌, cond, List, [], ◌∷◌, length, codes, refl}
use Rattle.std.proofs.Common.{sym, ◌∙◌, arith}
use Rattle.std.specs.List.{onto_first, AllByRecursion, list_any}
use Rattle.std.specs.Cmp.Lexicographic.{texts_ties}
use Rattle.std.proofs.lemmas.Bool.{ltb-false, eqb-false}
use Rattle.std.proofs.lemmas.Slice.Eq.{bytes_eq-Decides}
use Rattle.ll_path.specs.Word.{IsVisible}
use Rattle.ll_path.specs.Name.{IsName, same_name}
use Rattle.ll_path.specs.Path.{is_no_name, is_long_name}
use Rattle.ll_path.proofs.Splits.{cut_at_slashes}

pub same_name-from_equal : (a b : List ℕ) → a ≡ b → same_name a b ≡ true
same_name-from_equal a b e = sym (texts_ties a b) ∙ (bytes_eq-Decides a b).1 e

-- a byte of a name
abbrev IsNameByte : ℕ → Type 0
IsNameByte b = IsVisible b × (b ≢ 47)

neither : (a b : Bool) → (a || b) ≡ false → (a ≡ false) × (b ≡ false)
neither true b e = absurd cc
neither false b e = (refl, e)

differs : (a b : List ℕ) → same_name a b ≡ false → a ≢ b
differs a b e same = absurd (cc (same_name-from_equal a b same))

nonempty : (name : List ℕ) → (length name == 0) ≡ false → 0 < length name
nonempty [] e = absurd cc
nonempty (b ∷ name) e = omega arith

is_name : (name : List ℕ) → AllByRecursion IsNameByte name → is_no_name name ≡ false → is_long_name name ≡ false
    → IsName name
is_name name bytes named short =
    let tests = neither ((length name == 0) || same_name name (codes ".")) (same_name name (codes "..")) named in
    let first = neither (length name == 0) (same_name name (codes ".")) tests.0 in
    (nonempty name first.0, ltb-false 255 (length name) short, bytes, differs _ _ first.1, differs _ _ tests.1)

pub all_names : (names : List (List ℕ)) → AllByRecursion (AllByRecursion IsNameByte) names
    → list_any is_no_name names ≡ false → list_any is_long_name names ≡ false → AllByRecursion IsName names
all_names [] bytes named short = tt
all_names (name ∷ names) bytes named short =
    let n = neither (is_no_name name) (list_any is_no_name names) named in
    let s = neither (is_long_name name) (list_any is_long_name names) short in
    (is_name name bytes.0 n.0 s.0, all_names names bytes.1 n.1 s.1)

onto : (b : ℕ) (parts : List (List ℕ)) → IsNameByte b → AllByRecursion (AllByRecursion IsNameByte) parts
    → AllByRecursion (AllByRecursion IsNameByte) (onto_first b parts)
onto b [] h k = ((h, tt), tt)
onto b (part ∷ parts) h k = ((h, k.0), k.1)

cut_bytes : (b : ℕ) (test : Bool) (parts : List (List ℕ)) → IsVisible b → (b == 47) ≡ test
    → AllByRecursion (AllByRecursion IsNameByte) parts
    → AllByRecursion (AllByRecursion IsNameByte) (cond test ([] ∷ parts) (onto_first b parts))
cut_bytes b true parts h e k = (tt, k)
cut_bytes b false parts h e k = onto b parts (h, eqb-false b 47 e) k

-- between its slashes a visible text has bytes of names
pub parts_bytes : (text : List ℕ) → AllByRecursion IsVisible text
    → AllByRecursion (AllByRecursion IsNameByte) (cut_at_slashes text)
parts_bytes [] h = (tt, tt)
parts_bytes (b ∷ text) h = cut_bytes b (b == 47) (cut_at_slashes text) h.0 refl (parts_bytes text h.1)
