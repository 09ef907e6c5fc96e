-- Bytes and their digits.
use Rattle.std.proofs.Common.{◌≡◌, ℕ, ◌+◌, ◌-◌, ◌*◌, ◌/◌, ◌%◌, ◌<◌, ◌≤◌, ◌≢◌, Bool, true, false, List, [], ◌∷◌, length}
use Rattle.std.proofs.Common.{slice_index, Ok, ◌⊎◌, zero, suc, refl, ap, sym, subst, ◌∙◌, arith, inl, inr, codes}
use Rattle.std.specs.Prelude.{◌==◌, ◌↔◌, IsTrue, MatchBool}
use Rattle.std.specs.List.{All, AllByRecursion}
use Rattle.std.specs.Result.{result_unwrap_or}
use Rattle.std.proofs.lemmas.Bool.{cases_lt, eqb-true, agree_below_at, false≢true}
use Rattle.std.proofs.lemmas.List.Elements.{All-from_recursion, recursion_from_All}
use Rattle.hex.specs.Hex.{IsBytes, encode_with, encode_lower, lower_digits, decode_of}
use Rattle.hex.proofs.HexLemmas.{length-encode_with, decode_of-encode_lower, decode_of-same}
use Rattle.ll_seq.specs.Listed.{IsData}
use Rattle.ll_wire.specs.Grammar.{data_text}
use Rattle.ll_wire.specs.Parts.{SpellsData, IsDigit}

-- ---- one digit

digit_at : (v : ℕ) → v < 10 → slice_index lower_digits v ≡ v + 48
digit_at v h = eqb-true _ _ (agree_below_at (λ k. slice_index lower_digits k == k + 48) (λ _. true) 10 v refl h)

letter_at : (v : ℕ) → v < 6 → slice_index lower_digits (v + 10) ≡ v + 97
letter_at v h = eqb-true _ _ (agree_below_at (λ k. slice_index lower_digits (k + 10) == k + 97) (λ _. true) 6 v refl h)

value_of : (c : ℕ) → IsDigit c → (v : ℕ) × (v < 16) × (slice_index lower_digits v ≡ c)
value_of c (inl h) = (c - 48, omega arith, omega (arith, digit_at (c - 48) (omega arith)))
value_of c (inr h) =
    let same : c - 97 + 10 ≡ c - 87 = omega arith in
    let letter : slice_index lower_digits (c - 87) ≡ c - 97 + 97 =
    ap (slice_index lower_digits) (sym same) ∙ letter_at (c - 97) (omega arith) in
    (c - 87, omega arith, omega arith)

digit_of : (v : ℕ) → v < 16 → IsDigit (slice_index lower_digits v)
digit_of v h = elim (cases_lt v 10) [
  | inl low ↦ (let is = digit_at v low in inl (omega arith, omega arith))
  | inr high ↦ (
      let same : v - 10 + 10 ≡ v = omega arith in
      let is : slice_index lower_digits v ≡ v - 10 + 97 =
      ap (slice_index lower_digits) (sym same) ∙ letter_at (v - 10) (omega arith) in
      inr (omega arith, omega arith))
]

-- ---- pairs of digits

bytes_before : (b : ℕ) (bytes : List ℕ) → b < 256 → IsBytes bytes → IsBytes (b ∷ bytes)
bytes_before b bytes h k zero = h
bytes_before b bytes h k (suc i) = k i

read_pairs : (text : List ℕ) → length text % 2 ≡ 0 → AllByRecursion IsDigit text → (bytes : List ℕ) × IsBytes bytes
    × (encode_lower bytes ≡ text)
unfolding encode_with
read_pairs [] even h = ([], λ i. omega arith, refl)
read_pairs (a ∷ []) even h = absurd (omega arith)
read_pairs (a ∷ b ∷ text) even h =
    let high = value_of a h.0 in
    let low = value_of b h.1.0 in
    let rest = read_pairs text (omega arith) h.1.1 in
    let byte : ℕ = high.0 * 16 + low.0 in
    let above : byte / 16 ≡ high.0 = omega arith in
    let below : byte % 16 ≡ low.0 = omega arith in
    let first : slice_index lower_digits (byte / 16) ≡ a = ap (slice_index lower_digits) above ∙ high.2 in
    let second : slice_index lower_digits (byte % 16) ≡ b = ap (slice_index lower_digits) below ∙ low.2 in
    (byte ∷ rest.0, bytes_before byte rest.0 (omega arith) rest.1, λ i. first i ∷ second i ∷ rest.2 i)

all_digits : (bytes : List ℕ) → IsBytes bytes → AllByRecursion IsDigit (encode_lower bytes)
unfolding encode_with
all_digits [] h = tt
all_digits (b ∷ bytes) h =
    let fits : b < 256 = h zero in
    (digit_of (b / 16) (omega arith), (digit_of (b % 16) (omega arith), all_digits bytes (λ i. h (suc i))))

-- ---- bytes and their text

own_text : (bytes : List ℕ) → 0 < length bytes → data_text bytes ≡ encode_lower bytes
own_text [] h = absurd (omega arith)
own_text (b ∷ bytes) h = refl

digits_spell : (token : List ℕ) → 0 < length token → length token ≤ 8192 → length token % 2 ≡ 0
    → AllByRecursion IsDigit token → (bytes : List ℕ) × SpellsData token bytes
digits_spell token some short even digits =
    let read = read_pairs token even digits in
    let len : 2 * length read.0 ≡ length token = sym (length-encode_with lower_digits read.0) ∙ ap length read.2 in
    (read.0, ((read.1, omega arith), sym read.2 ∙ sym (own_text read.0 (omega arith))))

-- what spells bytes is a hyphen, or pairs of digits
spelled_by_digits : (token bytes : List ℕ) → SpellsData token bytes → (token ≡ codes "-" → ⊥)
    → (2 ≤ length token) × (length token ≤ 8192) × (length token % 2 ≡ 0) × AllByRecursion IsDigit token
spelled_by_digits token [] h other = absurd (other h.1)
spelled_by_digits token (b ∷ bytes) h other =
    let len : length token ≡ 2 * length (b ∷ bytes) = ap length h.1 ∙ length-encode_with lower_digits (b ∷ bytes) in
    let short : length (b ∷ bytes) ≤ 4096 = h.0.1 in
    (omega arith, omega arith, omega arith, rw h.1 (all_digits (b ∷ bytes) h.0.0))

pub of_another_length : (token bytes : List ℕ) → (token ≡ codes "-" → ⊥) → (length token < 2) ⊎ (8192 < length token)
    ⊎ (length token % 2 ≢ 0) → SpellsData token bytes → ⊥
of_another_length token bytes other (inl none) is = omega (arith, (spelled_by_digits token bytes is other).0)
of_another_length token bytes other (inr (inl long)) is = omega (arith, (spelled_by_digits token bytes is other).1)
of_another_length token bytes other (inr (inr odd)) is = odd (spelled_by_digits token bytes is other).2

pub by_digits : (token : List ℕ) (b : Bool) → (token ≡ codes "-" → ⊥) → 0 < length token → length token ≤ 8192
    → length token % 2 ≡ 0 → IsTrue b ↔ All (λ c. IsDigit c) token
    → MatchBool b ((bytes : List ℕ) × SpellsData token bytes) ((bytes : List ℕ) → SpellsData token bytes → ⊥)
by_digits token true other some short even h =
    digits_spell token some short even (recursion_from_All _ token (h.0 refl))
by_digits token false other some short even h =
    λ bytes is. false≢true (h.1 (All-from_recursion _ token (spelled_by_digits token bytes is other).3))

decoded : (token bytes : List ℕ) → SpellsData token bytes → (token ≡ codes "-" → ⊥) → decode_of token ≡ Ok bytes
decoded token [] h other = absurd (other h.1)
decoded token (b ∷ bytes) h other = ap decode_of h.1 ∙ decode_of-encode_lower (b ∷ bytes) h.0.0

-- what a token decodes to that is no hyphen
pub read_again : (token bytes read : List ℕ) → SpellsData token bytes → (token ≡ codes "-" → ⊥)
    → decode_of token ≡ Ok read → SpellsData token read
read_again token bytes read h other e =
    subst (λ (x : List ℕ). SpellsData token x) (decode_of-same token bytes read (decoded token bytes h other) e) h

pub same_data : (some other : List ℕ) → IsData some → IsData other → data_text some ≡ data_text other → some ≡ other
same_data [] [] h k e = refl
same_data [] (b ∷ other) h k e = absurd (omega (arith, ap length e, length-encode_with lower_digits (b ∷ other)))
same_data (a ∷ some) [] h k e = absurd (omega (arith, ap length e, length-encode_with lower_digits (a ∷ some)))
same_data (a ∷ some) (b ∷ other) h k e =
    let both : Ok (a ∷ some) ≡ decode_of (encode_lower (b ∷ other)) =
    sym (decode_of-encode_lower (a ∷ some) h.0) ∙ ap decode_of e in
    ap (λ r. result_unwrap_or r []) (both ∙ decode_of-encode_lower (b ∷ other) k.0)

-- ---- a token

pub data_digits : (bytes : List ℕ) → IsData bytes → (data_text bytes ≡ codes "-")
    ⊎ AllByRecursion IsDigit (data_text bytes)
data_digits [] h = inl refl
data_digits (b ∷ bytes) h = inr (all_digits (b ∷ bytes) h.0)
