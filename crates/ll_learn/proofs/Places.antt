-- Where a right comes to stand: the last inode of a path that passes; and sets with one right more.
use Rattle.std.specs.Prelude.{◌≡◌, ℕ, ◌+◌, ◌<◌, ◌==◌, ◌^◌, Bool, true, false, ◌&&◌, List, [], ◌∷◌, ◌++◌}
use Rattle.std.specs.Prelude.{Option, Some, None, IfSome, if◌then◌else◌, find, length, slice_index, slice_index_or}
use Rattle.std.specs.Prelude.{take}
use Rattle.std.specs.Prelude.{refl}
use Rattle.std.specs.List.{list_any}
use Rattle.std.specs.Option.{option_or}
use Rattle.std.proofs.Common.{ap, sym, subst, ◌∙◌, inl, inr}
use Rattle.std.proofs.lemmas.Bool.{and_from, and_parts, cases_eq, eq-eqb, eqb-true, ne_eqb, or_cases, or_from, or_left}
use Rattle.std.proofs.lemmas.Bool.{or_right}
use Rattle.std.proofs.lemmas.List.{take_more}
use Rattle.std.proofs.lemmas.List.Folds.{list_any_at}
use Rattle.std.proofs.lemmas.Nat.Bits.{bit_at-pow_same, bit_at-pow_other}
use Rattle.ll_rights.specs.Access.{holds}
use Rattle.ll_learn.specs.Draft.{is_asked_at, is_mended_at, is_placed, is_some_at, is_upper, last_of, may_have}
use Rattle.ll_learn.specs.Draft.{place_of}
use Rattle.ll_learn.specs.declared.draft.Scope.{Scope}
use Rattle.ll_learn.specs.declared.needs.Asked.{Asked}
use Rattle.ll_learn.specs.declared.needs.Moved.{Moved}
use Rattle.ll_learn.specs.declared.needs.Needs.{Needs}

-- ---- one right

pub only_holds : (right other : ℕ) → holds (2 ^ right) other ≡ (other == right)
only_holds right other = elim (cases_eq other right) [
  | inl e ↦ ap (λ k. holds (2 ^ k) other) (sym e) ∙ ap (λ n. n == 1) (bit_at-pow_same other)
      ∙ sym (eq-eqb other right e)
  | inr ne ↦ ap (λ n. n == 1) (bit_at-pow_other right other ne) ∙ sym (ne_eqb other right ne)
]

pub and_so : (b t : Bool) → t ≡ true → b ≡ (b && t)
and_so true t e = sym e
and_so false t e = refl

-- ---- the last that passes

chosen : (o : Option ℕ) (b : Bool) (x : ℕ) (more : Option ℕ)
    → option_or (if b then Some x else o) more ≡ (if b then Some x else option_or o more)
chosen o true x more = refl
chosen o false x more = refl

last_push : (p : ℕ → Bool) (xs : List ℕ) (x : ℕ)
    → last_of p (xs ++ x ∷ []) ≡ (if p x then Some x else last_of p xs)
last_push p [] x = refl
last_push p (y ∷ xs) x = ap (λ o. option_or o (if p y then Some y else None)) (last_push p xs x)
    ∙ chosen (last_of p xs) (p x) x (if p y then Some y else None)

pub last_more : (p : ℕ → Bool) (xs : List ℕ) (i : ℕ) → i < length xs → last_of p (take (i + 1) xs)
    ≡ (if p (slice_index xs i) then Some (slice_index xs i) else last_of p (take i xs))
last_more p xs i lt = ap (last_of p) (take_more xs i 0 lt) ∙ last_push p (take i xs) (slice_index xs i)

abbrev IsFound : (ℕ → Bool) → List ℕ → ℕ → Type 0
IsFound p xs i = (p i ≡ true) × (list_any (λ j. j == i) xs ≡ true)

found_or : (p : ℕ → Bool) (x : ℕ) (xs : List ℕ) (o : Option ℕ) (b : Bool) → p x ≡ b → IfSome o (IsFound p xs)
    → IfSome (option_or o (if b then Some x else None)) (IsFound p (x ∷ xs))
found_or p x xs (Some y) b e found = (found.0, or_right (x == y) (list_any (λ j. j == y) xs) found.1)
found_or p x xs None true e found = (e, or_left (x == x) (list_any (λ j. j == x) xs) (eq-eqb x x refl))
found_or p x xs None false e found = tt

pub last_found : (p : ℕ → Bool) (xs : List ℕ)
    → IfSome (last_of p xs) (λ i. (p i ≡ true) × (list_any (λ j. j == i) xs ≡ true))
last_found p [] = tt
last_found p (x ∷ xs) = found_or p x xs (last_of p xs) (p x) refl (last_found p xs)

none_or : (o : Option ℕ) (b : Bool) (x : ℕ) → option_or o (if b then Some x else None) ≡ None → (b ≡ false) × (o ≡ None)
none_or (Some y) b x e = absurd (cc e)
none_or None true x e = absurd (cc e)
none_or None false x e = (refl, refl)

pub last_none : (p : ℕ → Bool) (xs : List ℕ) → last_of p xs ≡ None → list_any p xs ≡ false
last_none p [] e = refl
last_none p (x ∷ xs) e = let parts = none_or (last_of p xs) (p x) x e in
    or_from (p x) (list_any p xs) parts.0 (last_none p xs parts.1)

-- ---- the place of a path

find_found : (p : ℕ → Bool) (xs : List ℕ) → IfSome (find p xs) (IsFound p xs)
find_found p [] = tt
find_found p (x ∷ xs) = first p x xs (p x) refl (find_found p xs)
  where
    first : (p : ℕ → Bool) (x : ℕ) (xs : List ℕ) (b : Bool) → p x ≡ b → IfSome (find p xs) (IsFound p xs)
        → IfSome (if b then Some x else find p xs) (IsFound p (x ∷ xs))
    first p x xs true e found = (e, or_left (x == x) (list_any (λ j. j == x) xs) (eq-eqb x x refl))
    first p x xs false e found = later (find p xs) found
      where
        later : (o : Option ℕ) → IfSome o (IsFound p xs) → IfSome o (IsFound p (x ∷ xs))
        later None found = tt
        later (Some y) found = (found.0, or_right (x == y) (list_any (λ j. j == y) xs) found.1)

upper_or : (scope : Scope) (right : ℕ) (inodes : List ℕ) (o p : Option ℕ)
    → IfSome o (IsFound (is_upper scope right) inodes) → IfSome p (IsFound (may_have scope right) inodes)
    → IfSome (option_or o p) (IsFound (may_have scope right) inodes)
upper_or scope right inodes None p upper last = last
upper_or scope right inodes (Some i) p upper last =
    ((and_parts (may_have scope right i) (list_any (λ j. j == i) scope.beneath.items) upper.0).0, upper.1)

pub place_found : (scope : Scope) (right : ℕ) (inodes : List ℕ) → IfSome (place_of scope right inodes)
    (λ i. (may_have scope right i ≡ true) × (list_any (λ j. j == i) inodes ≡ true))
place_found scope right inodes = upper_or scope right inodes (find (is_upper scope right) inodes)
    (last_of (may_have scope right) inodes) (find_found (is_upper scope right) inodes)
    (last_found (may_have scope right) inodes)

pub place_none : (scope : Scope) (right : ℕ) (inodes : List ℕ) → place_of scope right inodes ≡ None
    → list_any (may_have scope right) inodes ≡ false
place_none scope right inodes e = last_none (may_have scope right) inodes
    (second (find (is_upper scope right) inodes) (last_of (may_have scope right) inodes) e)
  where
    second : (o p : Option ℕ) → option_or o p ≡ None → p ≡ None
    second (Some x) p e = absurd (cc e)
    second None p e = e

some_at : (o : Option ℕ) (F : ℕ → Type 0) (i : ℕ) → IfSome o F → is_some_at o i ≡ true → F i
some_at None F i found e = absurd (cc e)
some_at (Some x) F i found e = subst F (eqb-true x i e) found

pub place_may : (scope : Scope) (right : ℕ) (inodes : List ℕ) (inode : ℕ)
    → is_some_at (place_of scope right inodes) inode ≡ true → may_have scope right inode ≡ true
place_may scope right inodes inode e = (some_at (place_of scope right inodes)
    (λ i. (may_have scope right i ≡ true) × (list_any (λ j. j == i) inodes ≡ true)) inode
    (place_found scope right inodes) e).0

any_item : {X : Type 0} (p : X → Bool) (xs : List X) → list_any p xs ≡ true → (x : X) × (p x ≡ true)
any_item p [] there = absurd (cc there)
any_item p (x ∷ xs) there = elim (or_cases (p x) (list_any p xs) there) [
  | inl e ↦ (x, e)
  | inr e ↦ any_item p xs e
]

pub asked_may : (scope : Scope) (right : ℕ) (asks : List Asked) (inode : ℕ) → is_asked_at scope right asks inode ≡ true
    → may_have scope right inode ≡ true
asked_may scope right asks inode there =
    let one = any_item (λ (a : Asked). holds a.rights.0 right && is_some_at (place_of scope right a.inodes.items) inode)
    asks there in
    place_may scope right (one.0).inodes.items inode (and_parts (holds (one.0).rights.0 right)
    (is_some_at (place_of scope right (one.0).inodes.items) inode) one.1).1

pub mended_may : (scope : Scope) (right : ℕ) (moves : List Moved) (inode : ℕ)
    → is_mended_at scope right moves inode ≡ true → may_have scope right inode ≡ true
mended_may scope right moves inode there =
    let one = any_item (λ (m : Moved). holds m.rights.0 right && is_some_at (place_of scope right m.from.items) inode)
    moves there in
    place_may scope right (one.0).from.items inode (and_parts (holds (one.0).rights.0 right)
    (is_some_at (place_of scope right (one.0).from.items) inode) one.1).1

pub placed_may : (scope : Scope) (needs : Needs) (right inode : ℕ) → is_placed scope needs right inode ≡ true
    → may_have scope right inode ≡ true
placed_may scope needs right inode there =
    elim (or_cases (is_asked_at scope right needs.asks.items inode)
    (is_mended_at scope right needs.moves.items inode) there) [
      | inl e ↦ asked_may scope right needs.asks.items inode e
      | inr e ↦ mended_may scope right needs.moves.items inode e
    ]

pub asked_there : (scope : Scope) (right : ℕ) (asks : List Asked) (k : ℕ) (a : Asked) → k < length asks
    → a ≡ slice_index_or asks k a → holds a.rights.0 right ≡ true → (inode : ℕ)
    → is_some_at (place_of scope right a.inodes.items) inode ≡ true → is_asked_at scope right asks inode ≡ true
asked_there scope right asks k a lt is so inode at =
    let p : Asked → Bool = λ a. holds a.rights.0 right && is_some_at (place_of scope right a.inodes.items) inode in
    list_any_at p asks k a lt (ap p (sym is)
    ∙ and_from (holds a.rights.0 right) (is_some_at (place_of scope right a.inodes.items) inode) so at)

pub mended_there : (scope : Scope) (right : ℕ) (moves : List Moved) (k : ℕ) (m : Moved) → k < length moves
    → m ≡ slice_index_or moves k m → holds m.rights.0 right ≡ true → (inode : ℕ)
    → is_some_at (place_of scope right m.from.items) inode ≡ true → is_mended_at scope right moves inode ≡ true
mended_there scope right moves k m lt is so inode at =
    let p : Moved → Bool = λ m. holds m.rights.0 right && is_some_at (place_of scope right m.from.items) inode in
    list_any_at p moves k m lt (ap p (sym is)
    ∙ and_from (holds m.rights.0 right) (is_some_at (place_of scope right m.from.items) inode) so at)
