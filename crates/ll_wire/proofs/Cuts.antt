-- What a line holds.
use Rattle.std.proofs.Common.{◌≡◌, ◌∙◌, ◌↔◌, IsTrue, not, ℕ, ◌<◌, Bool, true, false, List, [], ◌∷◌, ◌++◌, append_assoc}
use Rattle.std.proofs.Common.{length, Option, None, Some, ap, refl, subst, sym, arith}
use Rattle.std.proofs.Common.{◌==◌, ◌||◌, ◌+◌, ◌≤◌, cond}
use Rattle.std.specs.List.{list_any}
use Rattle.ll_wire.specs.Devices.{line_feeds}
use Rattle.ll_wire.proofs.FeedsInParts.{feeds-append}
use Rattle.ll_wire.specs.Pieces.{pieces}
use Rattle.ll_wire.proofs.CutStreams.{IsOpen, open-append, pieces-last, pieces-line}
use Rattle.ll_wire.specs.LineCuts.{Cuts, Gives, Holds}

some_at : (b rest : Bool) (n : ℕ) → (rest ≡ true → 1 ≤ n) → (b || rest) ≡ true → 1 ≤ cond b 1 0 + n
some_at true rest n more any = omega arith
some_at false rest n more any = let some = more any in omega (arith, some)

-- a line feed among the bytes is counted
pub some_feed : (bytes : List ℕ) → list_any (λ b. b == 10) bytes ≡ true → 1 ≤ line_feeds bytes
some_feed [] any = absurd cc
some_feed (b ∷ bytes) any =
    let all = feeds-append (b ∷ []) bytes in
    let one : 0 + cond (b == 10) 1 0 ≡ cond (b == 10) 1 0 = omega arith in
    let some = some_at (b == 10) (list_any (λ x. x == 10) bytes) (line_feeds bytes) (some_feed bytes) any in
    omega (arith, all, one, some)

-- what a line holds that isn't too long
pub kept : (line : Option (List ℕ)) (bytes part : List ℕ) → line ≡ Some bytes → Holds line part → bytes ≡ part
kept line bytes part is held = (subst (λ (l : Option (List ℕ)). Holds l part) is held).0

-- a line that is too long holds over 16,384 bytes
pub long : (line : Option (List ℕ)) (part : List ℕ) → line ≡ None → Holds line part → 16384 < length part
long line part is held = subst (λ (l : Option (List ℕ)). Holds l part) is held

pub has_bytes : (line : Option (List ℕ)) (part : List ℕ) → (line ≡ Some [] → ⊥) → Holds line part → 0 < length part
has_bytes (Some bytes) [] not_empty held = absurd (not_empty (let none = held.0 in cc))
has_bytes None [] not_empty held = absurd (omega (arith, held))
has_bytes line (b ∷ part) not_empty held = omega arith

-- an empty line holds nothing
pub no_bytes : (line : Option (List ℕ)) (part : List ℕ) → line ≡ Some [] → Holds line part → part ≡ []
no_bytes line part is held = let h = kept line [] part is held in cc

-- ---- a line that is being read

one_line : (part rest : List ℕ) (b : ℕ) → b ≡ 10 → IsOpen part
    → pieces (part ++ b ∷ rest) ≡ (part ++ b ∷ []) ∷ pieces rest
one_line part rest b lf is_open = rw lf (pieces-line part rest is_open)

-- of what is left, a part without a line feed is held, and the rest is so
abbrev pub Held : Option (List ℕ) → List ℕ → (List ℕ → Type 0) → Type 0
Held line left IsRest = (part rest : List ℕ) × (left ≡ part ++ rest) × IsOpen part × Holds line part × IsRest rest

-- the line took a byte
abbrev pub Takes : Option (List ℕ) → ℕ → Option (List ℕ) → Type 0
Takes line b line' = (part : List ℕ) → Holds line part → Holds line' (part ++ b ∷ [])

module _ (IsRest IsNext : List ℕ → Type 0) (next : Option ℕ) (gives : (rest : List ℕ) → IsRest rest
    → Gives rest next IsNext) (line line' : Option (List ℕ)) (left : List ℕ) where
  given : (o : Option ℕ) → next ≡ o → (rest : List ℕ) → IsRest rest → Gives rest o IsNext
  given o is rest h = subst (λ (x : Option ℕ). Gives rest x IsNext) is (gives rest h)

  -- a byte of the line
  pub byte_more : (b : ℕ) → next ≡ Some b → (b ≡ 10 → ⊥) → Takes line b line' → Held line left IsRest
      → Held line' left IsNext
  byte_more b is ne takes h =
      let more = given (Some b) is h.1 h.5 in (
        h.0 ++ b ∷ [],
        more.0,
        h.2 ∙ ap (λ x. h.0 ++ x) more.1
            ∙ sym (append_assoc h.0 (b ∷ []) more.0),
        open-append h.0 b ne h.3,
        takes h.0 h.4,
        more.2,
      )

  -- its line feed
  pub byte_last : (b : ℕ) → next ≡ Some b → b ≡ 10 → Takes line b line' → Held line left IsRest
      → Cuts left true line' IsNext
  byte_last b is lf takes h =
      let more = given (Some b) is h.1 h.5 in (
        h.0 ++ b ∷ [],
        more.0,
        ap pieces (h.2 ∙ ap (λ x. h.0 ++ x) more.1)
            ∙ one_line h.0 more.0 b lf h.3,
        takes h.0 h.4,
        more.2,
      )

  -- the end of the input
  pub no_byte : (is_empty : Bool) → next ≡ None → (IsTrue is_empty ↔ (line ≡ Some [])) → Held line left IsRest
      → Cuts left (not is_empty) line IsNext
  no_byte true none is h =
      let end = given None none h.1 h.5 in
      let nothing : left ≡ [] = h.2 ∙ ap (λ x. x ++ h.1) (no_bytes line h.0 (is.0 refl) h.4) ∙ end.0 in (nothing, end.1)
  no_byte false none is h =
      let end = given None none h.1 h.5 in
      let all : left ≡ h.0 ++ [] = h.2 ∙ ap (λ x. h.0 ++ x) end.0 in (
        h.0,
        [],
        ap pieces all ∙ pieces-last h.0 (has_bytes line h.0 (λ e. absurd (let yes = is.1 e in cc)) h.4) h.3,
        h.4,
        end.1,
      )
