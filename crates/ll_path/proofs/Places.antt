-- Where the names of a path begin in its text.
use Rattle.std.proofs.Common.{◌≡◌, ℕ, zero, suc, ◌+◌, ◌<◌, ◌≤◌, List, [], ◌∷◌, ◌++◌, length, take, drop, Option, Some}
use Rattle.std.proofs.Common.{None, option_map, slice_get, refl, ap, ◌∙◌, subst, arith, length-drop}
use Rattle.std.specs.List.{All, AllByRecursion, join_with_byte}
use Rattle.std.proofs.Math.Seq.{drop-append-add}
use Rattle.std.proofs.lemmas.List.Elements.{recursion_from_All}
use Rattle.std.proofs.lemmas.Option.{slice_get_within}
use Rattle.ll_path.specs.Name.{IsName}
use Rattle.ll_path.specs.Path.{Path}
use Rattle.ll_path.specs.Place.{IsPlace}
use Rattle.ll_path.specs.declared.place.Place.{Place}
use Rattle.ll_path.proofs.Splits.{cut_at_slashes}
use Rattle.ll_path.proofs.CommonNames.{spelled_len, spelled_len-cons, length-join, cut_join}

-- ---- the bytes of the first names

-- one name more
spelled_more : (path : Path) (depth : ℕ) (name : List ℕ) → slice_get path depth ≡ Some name
    → spelled_len (take (suc depth) path) ≡ spelled_len (take depth path) + length name + 1
spelled_more [] depth name e = absurd (cc e)
spelled_more (this ∷ path) zero name e =
    let same : this ≡ name = cc e in omega (arith, spelled_len-cons this [], ap length same)
spelled_more (this ∷ path) (suc depth) name e =
    omega (
      arith,
      spelled_more path depth name e,
      spelled_len-cons this (take (suc depth) path),
      spelled_len-cons this (take depth path),
    )

spelled_begins : (path : Path) (depth : ℕ) → spelled_len (take depth path) ≤ spelled_len path
spelled_begins [] zero = omega arith
spelled_begins [] (suc depth) = omega arith
spelled_begins (this ∷ path) zero = omega arith
spelled_begins (this ∷ path) (suc depth) =
    omega (arith, spelled_begins path depth, spelled_len-cons this (take depth path), spelled_len-cons this path)

-- where fewer bytes lie before it than all names have, there is a name
is_before : (path : Path) (depth : ℕ) → depth ≤ length path → spelled_len (take depth path) < spelled_len path
    → depth < length path
is_before [] zero le lt = absurd (omega arith)
is_before [] (suc depth) le lt = absurd (omega arith)
is_before (this ∷ path) zero le lt = omega arith
is_before (this ∷ path) (suc depth) le lt =
    omega (
      arith,
      is_before path depth (omega arith)
          (omega (arith, spelled_len-cons this (take depth path), spelled_len-cons this path)),
    )

-- the last name has no slash after it
length-text : (path : Path) → 0 < length path → length (join_with_byte 47 path) + 1 ≡ spelled_len path
length-text [] some = absurd (omega arith)
length-text (name ∷ path) some = length-join name path

-- ---- a place and the text

-- a name lies in the text
name_within : (path : Path) (place : Place) (name text : List ℕ) → IsPlace path place → text ≡ join_with_byte 47 path
    → slice_get path place.depth ≡ Some name → place.byte + length name ≤ length text
name_within path place name text at e is =
    let before = at.before in
    let some = slice_get_within path place.depth name is in
    omega (
      arith,
      ap length e,
      length-text path (omega arith),
      spelled_more path place.depth name is,
      spelled_begins path (suc place.depth),
    )

some_byte : (path : Path) (depth : ℕ) (name : List ℕ) → AllByRecursion IsName path → slice_get path depth ≡ Some name
    → 0 < length name
some_byte [] depth name h e = absurd (cc e)
some_byte (this ∷ path) zero name h e = let same : this ≡ name = cc e in subst (λ (n : List ℕ). 0 < length n) same h.0.0
some_byte (this ∷ path) (suc depth) name h e = some_byte path depth name h.1 e

-- past the text no name begins
pub none_at : (path : Path) (place : Place) (text : List ℕ) → IsPlace path place → text ≡ join_with_byte 47 path
    → All IsName path
    → length text ≤ place.byte → None ≡ slice_get path place.depth
none_at path place text at e names past = by (slice_get path place.depth) refl
  where
    by : (o : Option (List ℕ)) → slice_get path place.depth ≡ o → None ≡ o
    by None is = refl
    by (Some name) is =
        let within = name_within path place name text at e is in
        let some = some_byte path place.depth name (recursion_from_All IsName path names) is in
        absurd (omega arith)

-- ---- the names from there on

rest_at : (path : Path) (depth : ℕ) → depth < length path
    → drop (spelled_len (take depth path)) (join_with_byte 47 path) ≡ join_with_byte 47 (drop depth path)
rest_at [] depth lt = absurd (omega arith)
rest_at (this ∷ path) zero lt = refl
rest_at (this ∷ []) (suc depth) lt = absurd (omega arith)
rest_at (this ∷ next ∷ path) (suc depth) lt =
    let left = spelled_len (take depth (next ∷ path)) in
    let bytes : spelled_len (this ∷ take depth (next ∷ path)) ≡ length this + suc left =
    omega (arith, spelled_len-cons this (take depth (next ∷ path))) in
    ap (λ (n : ℕ). drop n (this ++ 47 ∷ join_with_byte 47 (next ∷ path))) bytes
    ∙ drop-append-add this (47 ∷ join_with_byte 47 (next ∷ path)) (suc left)
    ∙ rest_at (next ∷ path) depth (omega arith)

cut_names : (names : Path) → 0 < length names → AllByRecursion IsName names
    → cut_at_slashes (join_with_byte 47 names) ≡ names
cut_names [] some h = absurd (omega arith)
cut_names (name ∷ names) some h = cut_join name names h

all_after : (path : Path) (depth : ℕ) → AllByRecursion IsName path → AllByRecursion IsName (drop depth path)
all_after path zero h = h
all_after [] (suc depth) h = tt
all_after (this ∷ path) (suc depth) h = all_after path depth h.1

pub names_from : (path : Path) (place : Place) (text : List ℕ) → IsPlace path place → text ≡ join_with_byte 47 path
    → All IsName path
    → place.byte < length text → cut_at_slashes (drop place.byte text) ≡ drop place.depth path
names_from path place text at e names within =
    let before = at.before in
    let some : 0 < length path = some_name path (omega (arith, ap length e)) in
    let deep = is_before path place.depth at.within (omega (arith, ap length e, length-text path some)) in
    let rest : drop place.byte text ≡ join_with_byte 47 (drop place.depth path) =
    rw (e, before) (rest_at path place.depth deep) in
    ap cut_at_slashes rest
    ∙ cut_names (drop place.depth path) (omega (arith, length-drop place.depth path))
    (all_after path place.depth (recursion_from_All IsName path names))
  where
    some_name : (p : Path) → 0 < length (join_with_byte 47 p) → 0 < length p
    some_name [] lt = absurd (omega arith)
    some_name (name ∷ p) lt = omega arith

pub first_from : (path : Path) (depth : ℕ) → slice_get (drop depth path) 0 ≡ slice_get path depth
first_from path zero = refl
first_from [] (suc depth) = refl
first_from (this ∷ path) (suc depth) = first_from path depth

-- ---- the next place

some_len : (o : Option (List ℕ)) (len : ℕ) → option_map length o ≡ Some len → (name : List ℕ) × (o ≡ Some name)
    × (length name ≡ len)
some_len None len e = absurd (cc e)
some_len (Some name) len e = (name, refl, cc e)

pub len_within : (path : Path) (place : Place) (len : ℕ) (text : List ℕ) → IsPlace path place
    → text ≡ join_with_byte 47 path
    → option_map length (slice_get path place.depth) ≡ Some len → place.byte + len ≤ length text
len_within path place len text at e is =
    let name = some_len (slice_get path place.depth) len is in
    let long = name.2 in
    omega (arith, name_within path place name.0 text at e name.1)

pub place_next : (path : Path) (place : Place) (len : ℕ) → IsPlace path place
    → option_map length (slice_get path place.depth) ≡ Some len
    → IsPlace path (record { depth = place.depth + 1; byte = place.byte + len + 1 })
place_next path place len at is =
    let name = some_len (slice_get path place.depth) len is in
    let long = name.2 in
    let before = at.before in
    let more : place.depth + 1 ≡ suc place.depth = omega arith in
    record {
      within = omega (arith, slice_get_within path place.depth name.0 name.1);
      before = omega (
        arith,
        ap (λ (n : ℕ). spelled_len (take n path)) more,
        spelled_more path place.depth name.0 name.1,
      );
    }
