-- The first line of a text.
use Rattle.std.proofs.Common.{◌≡◌, ◌≢◌, ℕ, zero, suc, ◌<◌, true, false, eqb, List, [], ◌∷◌, length, slice_index, take}
use Rattle.std.proofs.Common.{drop, refl, ap, arith}
use Rattle.std.specs.List.{onto_first}
use Rattle.std.proofs.lemmas.Bool.{ne_eqb, eq-eqb}
use Rattle.ll_wire.specs.Pieces.{pieces}

-- no line feed stands in front of this place
abbrev pub Before : List ℕ → ℕ → Type 0
Before bytes end = (k : ℕ) → k < end → slice_index bytes k ≢ 10

later : (b : ℕ) (bytes : List ℕ) (end : ℕ) → Before (b ∷ bytes) (suc end) → Before bytes end
later b bytes end before k below = before (suc k) (omega (arith, below))

-- where none is there
pub no_feed : (bytes : List ℕ) → 0 < length bytes → Before bytes (length bytes) → pieces bytes ≡ bytes ∷ []
no_feed [] some before = absurd (omega arith)
no_feed (b ∷ []) some before = let e : eqb b 10 ≡ false = ne_eqb b 10 (before 0 (omega arith)) in rw e refl
no_feed (b ∷ c ∷ bytes) some before =
    let e : eqb b 10 ≡ false = ne_eqb b 10 (before 0 (omega arith)) in
    rw e (ap (onto_first b) (no_feed (c ∷ bytes) (omega arith) (later b (c ∷ bytes) (length (c ∷ bytes)) before)))

-- up to the first one
pub first_feed : (bytes : List ℕ) (end : ℕ) → Before bytes end → end < length bytes → slice_index bytes end ≡ 10
    → pieces bytes ≡ take (suc end) bytes ∷ pieces (drop (suc end) bytes)
first_feed [] end before within is = absurd (omega (arith, within))
first_feed (b ∷ bytes) zero before within is = let e : eqb b 10 ≡ true = eq-eqb b 10 is in let same : b ≡ 10 = is in
    rw e (ap (λ (x : ℕ). (x ∷ []) ∷ pieces bytes) refl)
first_feed (b ∷ bytes) (suc end) before within is =
    let e : eqb b 10 ≡ false = ne_eqb b 10 (before 0 (omega arith)) in
    rw e (ap (onto_first b) (first_feed bytes end (later b bytes end before) (omega (arith, within)) is))

-- where nothing is left
pub none_left : (bytes : List ℕ) → length bytes ≡ 0 → length (pieces bytes) ≡ 0
none_left [] none = refl
none_left (b ∷ bytes) none = absurd (omega (arith, none))
