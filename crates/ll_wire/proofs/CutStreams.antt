-- Where a stream is cut.
use Rattle.std.proofs.Common.{◌≡◌, ◌≢◌, ℕ, ◌<◌, false, eqb, List, [], ◌∷◌, ◌++◌, length, refl, ap, ◌∙◌, arith}
use Rattle.std.specs.List.{AllByRecursion, onto_first}
use Rattle.std.proofs.lemmas.Bool.{ne_eqb}
use Rattle.std.proofs.lemmas.List.{append-nil}
use Rattle.ll_wire.specs.Pieces.{pieces}

-- bytes without a line feed
abbrev pub IsOpen : List ℕ → Type 0
IsOpen = AllByRecursion (λ b. b ≢ 10)

pub open-append : (part : List ℕ) (b : ℕ) → b ≢ 10 → IsOpen part → IsOpen (part ++ b ∷ [])
open-append [] b ne h = (ne, tt)
open-append (p ∷ part) b ne h = (h.0, open-append part b ne h.1)

pub pieces-line : (part rest : List ℕ) → IsOpen part → pieces (part ++ 10 ∷ rest) ≡ (part ++ 10 ∷ []) ∷ pieces rest
pieces-line [] rest h = refl
pieces-line (b ∷ part) rest h = let e : eqb b 10 ≡ false = ne_eqb b 10 h.0 in
    rw e (ap (onto_first b) (pieces-line part rest h.1))

pieces-open : (b : ℕ) (part : List ℕ) → IsOpen (b ∷ part) → pieces (b ∷ part) ≡ (b ∷ part) ∷ []
pieces-open b [] h = let e : eqb b 10 ≡ false = ne_eqb b 10 h.0 in rw e refl
pieces-open b (c ∷ part) h = let e : eqb b 10 ≡ false = ne_eqb b 10 h.0 in
    rw e (ap (onto_first b) (pieces-open c part h.1))

pub pieces-last : (part : List ℕ) → 0 < length part → IsOpen part → pieces (part ++ []) ≡ part ∷ []
pieces-last [] more h = absurd (omega arith)
pieces-last (b ∷ part) more h = ap pieces (append-nil (b ∷ part)) ∙ pieces-open b part h
