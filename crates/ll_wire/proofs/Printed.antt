-- What is shown of a text is printed.
use Rattle.std.proofs.Common.{◌≡◌, ℕ, ◌+◌, ◌-◌, ◌<◌, ◌≤◌, ◌/◌, ◌%◌, Bool, true, false, List, [], ◌∷◌, ◌++◌, length}
use Rattle.std.proofs.Common.{take, drop, refl, ap, ◌∙◌, arith, length-append, length-drop}
use Rattle.std.specs.Prelude.{codes, nat_le, if◌then◌else◌}
use Rattle.std.specs.List.{All}
use Rattle.std.proofs.lemmas.Grind.{common_steps}
use Rattle.std.proofs.lemmas.List.Elements.{All-append, All-nil, All-cons, All-take, All-drop, All-head, All-tail}
use Rattle.ll_wire.specs.Terminal.{IsPrinted, cut, digit, escaped, escaped_byte, is_printed, shown}

printed_digit : (n : ℕ) (p : Bool) → n < 16 → nat_le n 9 ≡ p → IsPrinted (if p then 48 + n else 87 + n)
printed_digit n true lt is = grind arith
printed_digit n false lt is = grind arith

printed_by : (b : ℕ) (p : Bool) → is_printed b ≡ p
    → All IsPrinted (if p then b ∷ [] else 92 ∷ 120 ∷ digit (b / 16 % 16) ∷ digit (b % 16) ∷ [])
printed_by b true is = All-cons IsPrinted b [] is (All-nil IsPrinted)
printed_by b false is =
    let high = digit (b / 16 % 16) in
    let low = digit (b % 16) in
    All-cons IsPrinted 92 (120 ∷ high ∷ low ∷ []) refl (All-cons IsPrinted 120 (high ∷ low ∷ []) refl
    (All-cons IsPrinted high (low ∷ []) (printed_digit (b / 16 % 16) _ (grind arith) refl)
    (All-cons IsPrinted low [] (printed_digit (b % 16) _ (grind arith) refl) (All-nil IsPrinted))))

pub printed_byte : (b : ℕ) → All IsPrinted (escaped_byte b)
printed_byte b = printed_by b (is_printed b) refl

pub printed_escaped : (text : List ℕ) → All IsPrinted (escaped text)
printed_escaped [] = All-nil IsPrinted
printed_escaped (b ∷ text) =
    All-append IsPrinted (escaped_byte b) (escaped text) (printed_byte b) (printed_escaped text)

abbrev dots : List ℕ
dots = 46 ∷ 46 ∷ []

printed_dots : All IsPrinted dots
printed_dots = All-cons IsPrinted 46 (46 ∷ []) refl (All-cons IsPrinted 46 [] refl (All-nil IsPrinted))

printed_ends : (front back : List ℕ) → All IsPrinted front → All IsPrinted back
    → All IsPrinted (front ++ codes ".." ++ back)
printed_ends front back some more =
    All-append IsPrinted (front ++ dots) back (All-append IsPrinted front dots some printed_dots) more

cut_by : (text : List ℕ) (k : ℕ) (p : Bool) → All IsPrinted text
    → All IsPrinted (if p then text else take 99 text ++ codes ".." ++ drop k text)
cut_by text k true all = all
cut_by text k false all =
    printed_ends (take 99 text) (drop k text) (All-take IsPrinted 99 text all) (All-drop IsPrinted k text all)

pub printed_as : (text told : List ℕ) → told ≡ escaped text → All IsPrinted told
printed_as text told is = rw is (printed_escaped text)

pub printed_shown : (text : List ℕ) → All IsPrinted (shown text)
printed_shown text = cut_by (escaped text) (length (escaped text) - 99) _ (printed_escaped text)

short_ends : (front back : List ℕ) → length front ≤ 99 → length back ≤ 99
    → length (front ++ codes ".." ++ back) ≤ 200
short_ends front back some more = omega (arith, length-append (front ++ dots) back, length-append front dots)

short_front : (n : ℕ) (text : List ℕ) → length (take n text) ≤ n
short_front n text = grind (arith, common_steps)

short_by : (text : List ℕ) (k : ℕ) (p : Bool) → nat_le (length text) 200 ≡ p → length text ≤ k + 99
    → length (if p then text else take 99 text ++ codes ".." ++ drop k text) ≤ 200
short_by text k true is le = grind arith
short_by text k false is le =
    short_ends (take 99 text) (drop k text) (short_front 99 text) (omega (arith, length-drop k text))

pub short_shown : (text : List ℕ) → length (shown text) ≤ 200
short_shown text = short_by (escaped text) (length (escaped text) - 99) _ refl (omega arith)

same_by : (b : ℕ) (p : Bool) (rest : List ℕ) → p ≡ true
    → (if p then b ∷ [] else 92 ∷ 120 ∷ digit (b / 16 % 16) ∷ digit (b % 16) ∷ []) ++ rest ≡ b ∷ rest
same_by b true rest is = refl
same_by b false rest is = grind arith

same_escaped : (text : List ℕ) → All IsPrinted text → escaped text ≡ text
same_escaped [] all = refl
same_escaped (b ∷ text) all =
    same_by b (is_printed b) (escaped text) (All-head IsPrinted b text all)
    ∙ ap (λ (l : List ℕ). b ∷ l) (same_escaped text (All-tail IsPrinted b text all))

uncut_by : (text other : List ℕ) (p : Bool) → nat_le (length text) 200 ≡ p → length text ≤ 200
    → (if p then text else other) ≡ text
uncut_by text other true is le = refl
uncut_by text other false is le = grind arith

pub same_shown : (text : List ℕ) → All IsPrinted text → length text ≤ 200 → shown text ≡ text
same_shown text all le =
    ap cut (same_escaped text all)
    ∙ uncut_by text (take 99 text ++ codes ".." ++ drop (length text - 99) text) _ refl le

pub printed_told : (text told : List ℕ) → told ≡ shown text → All IsPrinted told
printed_told text told is = rw is (printed_shown text)
