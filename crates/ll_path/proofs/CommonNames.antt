-- The common beginning of two paths, and the bytes that its names take.
use Rattle.std.proofs.Common.{◌≡◌, ◌≢◌, ◌==◌, ℕ, ◌+◌, ◌-◌, ◌*◌, ◌≤◌, Bool, true, false, cond, List, [], ◌∷◌, ◌++◌}
use Rattle.std.proofs.Common.{length, take, refl, ap, sym, ◌∙◌, subst, arith, append_assoc, length-append}
use Rattle.std.specs.List.{All, AllByRecursion, sum_by, join_with_byte}
use Rattle.std.proofs.lemmas.Bool.{ne_eqb}
use Rattle.std.proofs.lemmas.List.{take_at, append-nil}
use Rattle.std.proofs.lemmas.List.Splits.{slice_split_at, slice_split_none}
use Rattle.std.proofs.lemmas.List.Elements.{All-from_recursion, recursion_from_All}
use Rattle.std.proofs.lemmas.List.Sums.{sum_by-cons}
use Rattle.ll_path.specs.Word.{IsVisible}
use Rattle.ll_path.specs.Name.{IsName, same_name}
use Rattle.ll_path.specs.Path.{Path, common}
use Rattle.ll_path.proofs.Splits.{cut_at_slashes}

-- the bytes of the names, each with a slash after it
abbrev pub spelled_len : Path → ℕ
spelled_len = sum_by (λ name. length name + 1)

pub spelled_len-cons : (name : List ℕ) (names : Path) → spelled_len (name ∷ names) ≡ length name + 1 + spelled_len names
spelled_len-cons name names = sum_by-cons (λ n. length n + 1) name names

common_le-cons : (this name : List ℕ) (p q : Path) (test : Bool) → spelled_len (common p q) ≤ spelled_len p
    → spelled_len (cond test (this ∷ common p q) []) ≤ spelled_len (this ∷ p)
common_le-cons this name p q true h = omega (arith, spelled_len-cons this (common p q), spelled_len-cons this p)
common_le-cons this name p q false h = omega arith

pub common_le : (p q : Path) → spelled_len (common p q) ≤ spelled_len p
common_le [] q = omega arith
common_le (this ∷ p) [] = omega arith
common_le (this ∷ p) (name ∷ q) = common_le-cons this name p q (same_name this name) (common_le p q)

-- both paths begin with one name
pub common_step : (p q p' q' : Path) (this name : List ℕ) → p ≡ this ∷ p' → q ≡ name ∷ q' → same_name this name ≡ true
    → common p q ≡ this ∷ common p' q'
common_step p q p' q' this name e d same = rw (e, d) (ap (λ (test : Bool). cond test (this ∷ common p' q') []) same)

-- the bytes of a common name are among those of the first path
pub common_step_le : (p q p' q' : Path) (this name : List ℕ) → p ≡ this ∷ p' → q ≡ name ∷ q'
    → same_name this name ≡ true → length this + 1 ≤ spelled_len (common p q)
common_step_le p q p' q' this name e d same =
    omega (arith, ap spelled_len (common_step p q p' q' this name e d same), spelled_len-cons this (common p' q'))

-- the common names begin the path
rest_after : (this : List ℕ) (p q : Path) (test : Bool) → (rest : Path) × (p ≡ common p q ++ rest) → (rest : Path)
    × (this ∷ p ≡ cond test (this ∷ common p q) [] ++ rest)
rest_after this p q true h = (h.0, ap (λ (names : Path). this ∷ names) h.1)
rest_after this p q false h = (this ∷ p, refl)

pub common_begins : (p q : Path) → (rest : Path) × (p ≡ common p q ++ rest)
common_begins [] q = ([], refl)
common_begins (this ∷ p) [] = (this ∷ p, refl)
common_begins (this ∷ p) (name ∷ q) = rest_after this p q (same_name this name) (common_begins p q)

pub no_bytes : (names : Path) → spelled_len names ≡ 0 → names ≡ []
no_bytes [] e = refl
no_bytes (name ∷ names) e = absurd (omega (arith, spelled_len-cons name names))

-- ---- names that are put together

-- the text of a longer list begins with that of its first names
pub join_begins : (name : List ℕ) (names rest : Path) → (more : List ℕ)
    × (join_with_byte 47 ((name ∷ names) ++ rest) ≡ join_with_byte 47 (name ∷ names) ++ more)
join_begins name [] [] = ([], sym (append-nil name))
join_begins name [] (next ∷ rest) = (47 ∷ join_with_byte 47 (next ∷ rest), refl)
join_begins name (next ∷ names) rest =
    let later = join_begins next names rest in (
      later.0,
      ap (λ (text : List ℕ). name ++ 47 ∷ text) later.1
          ∙ sym (append_assoc name (47 ∷ join_with_byte 47 (next ∷ names)) later.0),
    )

pub length-join : (name : List ℕ) (names : Path)
    → length (join_with_byte 47 (name ∷ names)) + 1 ≡ spelled_len (name ∷ names)
length-join name [] = omega arith
length-join name (next ∷ names) =
    omega (
      arith,
      length-append name (47 ∷ join_with_byte 47 (next ∷ names)),
      length-join next names,
      spelled_len-cons name (next ∷ names),
    )

no_slash : (bytes : List ℕ) → AllByRecursion (λ b. IsVisible b × (b ≢ 47)) bytes
    → AllByRecursion (λ b. (b == 47) ≡ false) bytes
no_slash [] h = tt
no_slash (b ∷ bytes) h = (ne_eqb b 47 h.0.1, no_slash bytes h.1)

-- names that are put together and cut again
pub cut_join : (name : List ℕ) (names : Path) → AllByRecursion IsName (name ∷ names)
    → cut_at_slashes (join_with_byte 47 (name ∷ names)) ≡ name ∷ names
cut_join name [] h = slice_split_none (λ b. b == 47) name
    (All-from_recursion (λ b. (b == 47) ≡ false) name (no_slash name h.0.2))
cut_join name (next ∷ names) h =
    slice_split_at (λ b. b == 47) name 47 (join_with_byte 47 (next ∷ names))
    (All-from_recursion (λ b. (b == 47) ≡ false) name (no_slash name h.0.2)) refl
    ∙ ap (λ (parts : Path). name ∷ parts) (cut_join next names h.1)

first_names_all : (P : List ℕ → Type 0) (front rest : Path) → AllByRecursion P (front ++ rest) → AllByRecursion P front
first_names_all P [] rest h = tt
first_names_all P (name ∷ front) rest h = (h.0, first_names_all P front rest h.1)

begin_of : (front rest : Path) (text : List ℕ) → text ≡ join_with_byte 47 (front ++ rest) → AllByRecursion IsName front
    → spelled_len front ≢ 0 → (spelled_len front ≤ length text + 1)
    × (cut_at_slashes (take (spelled_len front - 1) text) ≡ front)
begin_of [] rest text e h some = absurd (some refl)
begin_of (name ∷ front) rest text e h some =
    let more = join_begins name front rest in
    let sizes = length-join name front in
    let whole : text ≡ join_with_byte 47 (name ∷ front) ++ more.0 = e ∙ more.1 in
    let begins : take (spelled_len (name ∷ front) - 1) text ≡ join_with_byte 47 (name ∷ front) =
    rw whole (take_at (join_with_byte 47 (name ∷ front)) more.0 (spelled_len (name ∷ front) - 1) (omega arith)) in (
      omega (arith, ap length whole, length-append (join_with_byte 47 (name ∷ front)) more.0),
      ap cut_at_slashes begins ∙ cut_join name front h,
    )

-- the text of a path, cut after the names that it shares
pub cut_common : (p q : Path) (text : List ℕ) → text ≡ join_with_byte 47 p → All IsName p → spelled_len (common p q) ≢ 0
    → (spelled_len (common p q) ≤ length text + 1)
    × (cut_at_slashes (take (spelled_len (common p q) - 1) text) ≡ common p q)
cut_common p q text e names some =
    let begins = common_begins p q in
    begin_of (common p q) begins.0 text (e ∙ ap (join_with_byte 47) begins.1)
    (first_names_all IsName (common p q) begins.0
    (subst (AllByRecursion IsName) begins.1 (recursion_from_All IsName p names))) some

-- a path's text is short
bytes_few : (names : Path) → AllByRecursion IsName names → spelled_len names ≤ 256 * length names
bytes_few [] h = omega arith
bytes_few (name ∷ names) h = omega (arith, bytes_few names h.1, spelled_len-cons name names)

pub spelled_few : (names : Path) → All IsName names → length names ≤ 64 → spelled_len names ≤ 16384
spelled_few names h few = omega (arith, bytes_few names (recursion_from_All IsName names h))
