-- Paths that some word spells: the root's, those with one name more, and those with one name less.
use Rattle.std.specs.Prelude.{◌≡◌, ◌≢◌, ◌==◌, ◌<◌, ◌≤◌, ◌||◌, All, ℕ, Bool, true, false, not, List, [], ◌∷◌, ◌++◌}
use Rattle.std.specs.Prelude.{length, codes, nat_eq, nat_lt, refl}
use Rattle.std.specs.List.{AllByRecursion, join_with_byte, list_any, starts_with}
use Rattle.std.proofs.Common.{ap, sym, subst, ◌∙◌, append_assoc, arith, get_or}
use Rattle.std.proofs.lemmas.Bool.{ne_eqb}
use Rattle.std.proofs.lemmas.Bool.Decides.{nat_tests}
use Rattle.std.proofs.lemmas.List.{length-append}
use Rattle.std.proofs.lemmas.List.Elements.{All-from_recursion, All-get_or}
use Rattle.std.proofs.lemmas.List.Folds.{list_any-append}
use Rattle.ll_rights.specs.declared.errno.Errno.TheVariants.{EINVAL, ENAMETOOLONG}
use Rattle.ll_rights.specs.Errno.{refuse}
use Rattle.ll_path.specs.Name.{IsName}
use Rattle.ll_path.specs.Path.{Path, is_long_name, is_no_name, is_root, parent, path_of_text, path_refusals, path_text}
use Rattle.ll_path.specs.Word.{IsVisible, IsWord}
use Rattle.ll_path.proofs.PathLemmas.{end_is_name, parent-push, path_of_text-cut, path_of_text-names}
use Rattle.ll_path.proofs.PathLemmas.{path_text-path_of_text, spells_path}
use Rattle.ll_path.proofs.Splits.{cut_at_slashes, cut_last, uncut}
use Rattle.ll_learn.specs.Sites.{IsSpelt}

pub spelt_root : IsSpelt []
spelt_root = (47 ∷ [], (omega arith, omega arith, ((omega arith, omega arith), tt)), (refl, refl))

-- ---- texts of paths with one name more

-- below the root
pub text_first : (path : Path) (name : List ℕ) → is_root path ≡ true
    → path_text (path ++ name ∷ []) ≡ path_text path ++ name
text_first [] name e = refl
text_first (first ∷ path) name e = absurd (cc e)

join_push : (first : List ℕ) (path : Path) (name : List ℕ)
    → join_with_byte 47 ((first ∷ path) ++ name ∷ []) ≡ join_with_byte 47 (first ∷ path) ++ 47 ∷ name
join_push first [] name = refl
join_push first (next ∷ path) name = ap (λ l. first ++ 47 ∷ l) (join_push next path name)
    ∙ sym (append_assoc first (47 ∷ join_with_byte 47 (next ∷ path)) (47 ∷ name))

-- below any other
pub text_next : (path : Path) (name : List ℕ) → is_root path ≡ false
    → path_text (path ++ name ∷ []) ≡ path_text path ++ 47 ∷ name
text_next [] name e = absurd (cc e)
text_next (first ∷ path) name e = ap (λ l. 47 ∷ l) (join_push first path name)

-- ---- what is spelt

-- the text is the path's
pub spelt_text : (path : Path) (spelt : IsSpelt path) → path_text path ≡ spelt.0
spelt_text path spelt = ap path_text spelt.2.1 ∙ path_text-path_of_text spelt.0 spelt.2.0

-- so its own text is a word without refusals that spells it
pub spelt_own : (path : Path) → IsSpelt path → IsWord (path_text path) × (path_refusals (path_text path) ≡ [])
    × (path ≡ path_of_text (path_text path))
spelt_own path spelt =
    let same = sym (spelt_text path spelt) in (
      subst IsWord same spelt.1,
      subst (λ (t : List ℕ). path_refusals t ≡ []) same spelt.2.0,
      spelt.2.1 ∙ ap path_of_text same,
    )

-- a name has a byte, and no slash
more : (b : ℕ) (bytes : List ℕ) → (length (b ∷ bytes) == 0) ≡ false
more b bytes = ne_eqb (length (b ∷ bytes)) 0 (λ e. absurd (omega arith))

name_long : (name : List ℕ) → IsName name → (length name == 0) ≡ false
name_long [] is = let some = is.0 in absurd (omega arith)
name_long (b ∷ name) is = more b name

no_slash : (name : List ℕ) → AllByRecursion (λ b. IsVisible b × (b ≢ 47)) name → (i : ℕ) → i < length name
    → get_or name i 0 ≢ 47
no_slash name all i lt =
    (All-get_or (λ b. IsVisible b × (b ≢ 47)) name i 0 lt (All-from_recursion (λ b. IsVisible b × (b ≢ 47)) name all)).1

join_long : (first : List ℕ) (path : Path) → IsName first → (length (join_with_byte 47 (first ∷ path)) == 0) ≡ false
join_long [] path is = let some = is.0 in absurd (omega arith)
join_long (b ∷ first) [] is = more b first
join_long (b ∷ first) (next ∷ path) is = more b (first ++ 47 ∷ join_with_byte 47 (next ∷ path))

some_long : (xs ys : List ℕ) (b : ℕ) → (length (xs ++ b ∷ ys) == 0) ≡ false
some_long [] ys b = more b ys
some_long (x ∷ xs) ys b = more x (xs ++ b ∷ ys)

-- the names of a spelt path are names
pub spelt_names : (path : Path) → IsSpelt path → All IsName path
spelt_names path spelt = subst (All IsName) (sym spelt.2.1) (path_of_text-names spelt.0 spelt.1.2 spelt.2.0)

-- cut at its slashes, the text has the parts of the shorter one and the name
read_own : (first : List ℕ) (path : Path) → IsName first
    → path_of_text (path_text (first ∷ path)) ≡ cut_at_slashes (join_with_byte 47 (first ∷ path))
read_own first path is = path_of_text-cut (join_with_byte 47 (first ∷ path)) (join_long first path is)

read_push : (first : List ℕ) (path : Path) (name : List ℕ) → IsName name
    → path_of_text (path_text ((first ∷ path) ++ name ∷ []))
    ≡ cut_at_slashes (join_with_byte 47 (first ∷ path)) ++ name ∷ []
read_push first path name is =
    ap path_of_text (text_next (first ∷ path) name refl)
    ∙ path_of_text-cut (join_with_byte 47 (first ∷ path) ++ 47 ∷ name)
    (some_long (join_with_byte 47 (first ∷ path)) name 47)
    ∙ cut_last (join_with_byte 47 (first ∷ path)) name (no_slash name is.2)

-- a path with one name more is what its text spells
pub spelt_push : (path : Path) (name : List ℕ) → IsSpelt path → IsName name
    → path_of_text (path_text (path ++ name ∷ [])) ≡ path ++ name ∷ []
spelt_push [] name spelt is = path_of_text-cut name (name_long name is) ∙ uncut name (no_slash name is.2)
spelt_push (first ∷ path) name spelt is =
    let names = spelt_names (first ∷ path) spelt in
    read_push first path name is
    ∙ ap (λ (p : Path). p ++ name ∷ []) (sym (read_own first path (names 0 first (omega arith)))
    ∙ sym (spelt_own (first ∷ path) spelt).2)

-- what no word spells has no such text
pub unspelt : (path : Path) (text : List ℕ) → text ≡ path_text path
    → (IsWord text → path_refusals text ≡ [] → ⊥) → IsSpelt path → ⊥
unspelt path text is none spelt =
    let same : text ≡ spelt.0 = is ∙ spelt_text path spelt in
    none (subst IsWord (sym same) spelt.1) (subst (λ (t : List ℕ). path_refusals t ≡ []) (sym same) spelt.2.0)

-- ---- one name less

all_front : (P : ℕ → Type 0) (xs ys : List ℕ) → AllByRecursion P (xs ++ ys) → AllByRecursion P xs
all_front P [] ys all = tt
all_front P (x ∷ xs) ys all = (all.0, all_front P xs ys all.1)

word_front : (xs ys : List ℕ) → 0 < length xs → IsWord (xs ++ ys) → IsWord xs
word_front xs ys some word =
    let most = word.1 in
    (some, omega (arith, length-append xs ys), all_front IsVisible xs ys word.2)

any_front : {A : Type 0} (p : A → Bool) (xs ys : List A) → list_any p (xs ++ ys) ≡ false → list_any p xs ≡ false
any_front p xs ys none = first (list_any p xs) (list_any p ys) (sym (list_any-append p xs ys) ∙ none)
  where
    first : (a b : Bool) → (a || b) ≡ false → a ≡ false
    first true b e = absurd (cc e)
    first false b e = refl

no_refusals : (text : List ℕ) → nat_lt 4095 (length text) ≡ false → starts_with nat_eq text (codes "/") ≡ true
    → list_any is_no_name (path_of_text text) ≡ false → list_any is_long_name (path_of_text text) ≡ false
    → nat_lt 64 (length (path_of_text text)) ≡ false → path_refusals text ≡ []
no_refusals text short slash named within few =
    by (nat_lt 4095 (length text)) (starts_with nat_eq text (codes "/")) (list_any is_no_name (path_of_text text))
    (list_any is_long_name (path_of_text text)) (nat_lt 64 (length (path_of_text text))) short slash named within few
  where
    by : (a b c d e : Bool) → a ≡ false → b ≡ true → c ≡ false → d ≡ false → e ≡ false
        → refuse a ENAMETOOLONG ++ refuse (not b) EINVAL ++ refuse c EINVAL ++ refuse d ENAMETOOLONG
        ++ refuse e ENAMETOOLONG ≡ []
    by false true false false false p q r s t = refl
    by true b c d e p q r s t = absurd (cc p)
    by false false c d e p q r s t = absurd (cc q)
    by false true true d e p q r s t = absurd (cc r)
    by false true false true e p q r s t = absurd (cc s)
    by false true false false true p q r s t = absurd (cc t)

not_above : (most n : ℕ) → n ≤ most → nat_lt most n ≡ false
not_above most n le = grind (arith, nat_tests)

-- a beginning of a spelt path is spelt
pub spelt_front : (path : Path) (name : List ℕ) → IsSpelt (path ++ name ∷ []) → IsSpelt path
spelt_front [] name spelt = spelt_root
spelt_front (first ∷ path) name spelt =
    let front : Path = first ∷ path in
    let whole : Path = front ++ name ∷ [] in
    let own = spelt_own whole spelt in
    let names : All IsName whole = spelt_names whole spelt in
    let is : IsName first = names 0 first (omega (arith, length-append front (name ∷ []))) in
    let last : IsName name = end_is_name whole front name refl names in
    let parts : whole ≡ cut_at_slashes (join_with_byte 47 front) ++ name ∷ [] =
    own.2 ∙ read_push first path name last in
    let reads : path_of_text (path_text front) ≡ front =
    read_own first path is ∙ sym (sym (parent-push front name) ∙ ap parent parts
    ∙ parent-push (cut_at_slashes (join_with_byte 47 front)) name) in
    let text : path_text whole ≡ path_text front ++ 47 ∷ name = text_next front name refl in
    let spells = spells_path (path_text whole) own.1 in
    let fits = spells.fits in
    let few = spells.few in
    let short : length (path_text front) ≤ 4095 =
    omega (arith, ap length text, length-append (path_text front) (47 ∷ name)) in
    let names_few : length (path_of_text (path_text front)) ≤ 64 =
    omega (arith, ap length reads, ap length own.2, length-append front (name ∷ [])) in
    let none : (p : List ℕ → Bool) → list_any p (path_of_text (path_text whole)) ≡ false
    → list_any p (path_of_text (path_text front)) ≡ false =
    λ p e. ap (list_any p) reads ∙ any_front p front (name ∷ []) (ap (list_any p) own.2 ∙ e) in (
      path_text front,
      word_front (path_text front) (47 ∷ name) (omega arith) (subst IsWord text own.0),
      (
        no_refusals (path_text front) (not_above 4095 (length (path_text front)) short) refl
            (none is_no_name spells.named) (none is_long_name spells.short)
            (not_above 64 (length (path_of_text (path_text front))) names_few),
        sym reads,
      ),
    )
