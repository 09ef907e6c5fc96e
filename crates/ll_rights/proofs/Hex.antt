-- Numbers in base 16, in lower case.
use Rattle.std.proofs.Common.{◌≡◌, ◌≢◌, ℕ, zero, suc, ◌+◌, ◌*◌, ◌/◌, ◌%◌, ◌^◌, ◌<◌, ◌≤◌, Bool, true, false, eqb, ◌&&◌}
use Rattle.std.proofs.Common.{◌||◌, not, List, [], ◌∷◌, ◌++◌, length, take, map, get_or, refl, ap, sym, ◌∙◌}
use Rattle.std.proofs.Common.{append_assoc, pow-suc, arith, inl, inr}
use Rattle.std.specs.Prelude.{◌==◌, nat_lt, nat_le}
use Rattle.std.specs.Char.{digit_char, digit_value}
use Rattle.std.specs.Fmt.{digits, digits_onto}
use Rattle.std.specs.List.{AllByRecursion, list_all}
use Rattle.std.specs.Str.Parse.{AllDigits, IsNumeral, digits_value, without_leading_plus}
use Rattle.std.specs.Int.Digits.{digits_of, number_from_digits, AllBelowBase}
use Rattle.std.proofs.lemmas.Int.Digits.{digits_of_step, number_push, digits_value_is, all_below_base_digits_of}
use Rattle.std.proofs.lemmas.Int.Digits.{number_digits_of, first_digits_of}
use Rattle.std.proofs.lemmas.Str.{digit_value-digit_char}
use Rattle.std.proofs.lemmas.List.{append-nil, take_more, take_all, length-take, get_or-take, map_push}
use Rattle.std.proofs.lemmas.List.Elements.{All-from_recursion}
use Rattle.std.proofs.lemmas.Bool.{cases_lt, ne_eqb, leb-true, ltb-true, eqb-true, and_parts, and_from, or_cases}
use Rattle.std.proofs.lemmas.Bool.{not_from_true, agree_below_at, true≢false}

abbrev pub is_lower_hex : ℕ → Bool
is_lower_hex b = (nat_le 48 b && nat_le b 57) || (nat_le 97 b && nat_le b 102)

-- ---- what `{:x}` writes

onto : (k n : ℕ) (acc : List ℕ) → 0 < n → n < 16 ^ k
    → digits_onto k 16 false n acc ≡ map digit_char (digits_of 16 n) ++ acc
onto zero n acc some small = absurd (omega arith)
onto (suc k) n acc some small =
    let step : digits_of 16 n ≡ digits_of 16 (n / 16) ++ n % 16 ∷ [] = digits_of_step 16 n (omega arith) some in
    elim (cases_lt 0 (n / 16)) [
      | inr le ↦ (let last : n / 16 ≡ 0 = omega arith in rw (step, last) refl)
      | inl more ↦ (
          let inner = onto k (n / 16) (digit_char (n % 16) ∷ acc) more (omega (arith, pow-suc)) in
          let test : eqb (n / 16) 0 ≡ false = ne_eqb (n / 16) 0 (λ z. omega arith) in
          rw (test, step, map_push digit_char (digits_of 16 (n / 16)) (n % 16)) (inner
          ∙ sym (append_assoc (map digit_char (digits_of 16 (n / 16))) (digit_char (n % 16) ∷ []) acc)))
    ]

pub written : (n : ℕ) → 0 < n → n < 2 ^ 64 → digits 16 false n ≡ map digit_char (digits_of 16 n)
unfolding digits
written n some small = onto 64 n [] some (omega arith) ∙ append-nil _

-- ---- what a numeral without a leading zero is the text of

below_take : (k : ℕ) (ds : List ℕ) → AllBelowBase 16 ds → AllBelowBase 16 (take k ds)
below_take zero ds h = tt
below_take (suc k) [] h = tt
below_take (suc k) (d ∷ ds) h = (h.0, below_take k ds h.1)

front_lead : (k : ℕ) (ds : List ℕ) → 0 < k → 0 < get_or ds 0 0 → 0 < get_or (take k ds) 0 0
front_lead k ds more h = rw (get_or-take k ds 0 0 more) h

positive : (k : ℕ) (ds : List ℕ) (m n : ℕ) → length ds ≡ suc k → n ≡ m * 16 + get_or ds k 0 → digits_of 16 m ≡ take k ds
    → 0 < get_or ds 0 0 → 0 < n
positive zero ds m n e value inner lead = omega arith
positive (suc k) ds zero n e value inner lead = let len : length (take (suc k) ds) ≡ 0 = ap length (sym inner) in
    absurd (omega (arith, length-take (suc k) ds))
positive (suc k) ds (suc m) n e value inner lead = omega arith

again : (k : ℕ) (ds : List ℕ) → length ds ≡ k → AllBelowBase 16 ds → (0 < length ds → 0 < get_or ds 0 0)
    → digits_of 16 (number_from_digits 16 ds) ≡ ds
again zero [] e below lead = refl
again zero (d ∷ ds) e below lead = absurd (omega arith)
again (suc k) ds e below lead =
    let split : ds ≡ take k ds ++ get_or ds k 0 ∷ [] =
    sym (take_all (k + 1) ds (omega arith)) ∙ take_more ds k 0 (omega arith) in
    let value : number_from_digits 16 ds ≡ number_from_digits 16 (take k ds) * 16 + get_or ds k 0 =
    ap (number_from_digits 16) split ∙ number_push 16 (take k ds) (get_or ds k 0) in
    let small : get_or ds k 0 < 16 = All-from_recursion (λ d. d < 16) ds below k 0 (omega arith) in
    let inner : digits_of 16 (number_from_digits 16 (take k ds)) ≡ take k ds =
    again k (take k ds) (omega (arith, length-take k ds)) (below_take k ds below)
    (λ h. front_lead k ds (omega (arith, length-take k ds)) (lead (omega arith))) in
    let more : 0 < number_from_digits 16 ds =
    positive k ds (number_from_digits 16 (take k ds)) (number_from_digits 16 ds) e value inner (lead (omega arith))
    in
    let high : number_from_digits 16 ds / 16 ≡ number_from_digits 16 (take k ds) = omega arith in
    let low : number_from_digits 16 ds % 16 ≡ get_or ds k 0 = omega arith in
    digits_of_step 16 (number_from_digits 16 ds) (omega arith) more ∙ rw (high, low, inner) (sym split)

-- ---- lower-case digits

-- the byte is the one that writes its value
pub record LowerDigit (b : ℕ) : Type 0 where
  pub small : digit_value b < 16
  pub back : digit_char (digit_value b) ≡ b
  pub no_plus : b ≢ 43

abbrev writes_again : ℕ → Bool
writes_again b = not (is_lower_hex b) || (digit_char (digit_value b) == b && nat_lt (digit_value b) 16)

below : (b : ℕ) → is_lower_hex b ≡ true → (48 ≤ b) × (b < 103)
below b lower = elim (or_cases (nat_le 48 b && nat_le b 57) (nat_le 97 b && nat_le b 102) lower) [
  | inl h ↦ (let p = and_parts (nat_le 48 b) (nat_le b 57) h in (leb-true _ _ p.0, omega (arith, leb-true _ _ p.1)))
  | inr h ↦ (let p = and_parts (nat_le 97 b) (nat_le b 102) h
      in (omega (arith, leb-true _ _ p.0), omega (arith, leb-true _ _ p.1)))
]

lower_digit : (b : ℕ) → is_lower_hex b ≡ true → LowerDigit b
lower_digit b lower =
    let range = below b lower in
    let known : writes_again b ≡ true = agree_below_at writes_again (λ _. true) 103 b refl range.1 in
    elim (or_cases (not (is_lower_hex b)) (digit_char (digit_value b) == b && nat_lt (digit_value b) 16) known) [
      | inl other ↦ absurd (true≢false (sym other ∙ not_from_true _ lower))
      | inr h ↦ (
          let p = and_parts (digit_char (digit_value b) == b) (nat_lt (digit_value b) 16) h in
          record { small = ltb-true _ _ p.1; back = eqb-true _ _ p.0; no_plus = λ plus. omega (arith, range.0) })
    ]

abbrev LowerDigits : List ℕ → Type 0
LowerDigits bs = AllByRecursion LowerDigit bs

lower_digits : (bs : List ℕ) → list_all is_lower_hex bs ≡ true → LowerDigits bs
lower_digits [] e = tt
lower_digits (b ∷ bs) e = let p = and_parts (is_lower_hex b) (list_all is_lower_hex bs) e in
    (lower_digit b p.0, lower_digits bs p.1)

all_digits : (bs : List ℕ) → LowerDigits bs → AllDigits 16 bs
all_digits [] h = tt
all_digits (b ∷ bs) h = (h.0.small, all_digits bs h.1)

below_base : (bs : List ℕ) → LowerDigits bs → AllBelowBase 16 (map digit_value bs)
below_base [] h = tt
below_base (b ∷ bs) h = (h.0.small, below_base bs h.1)

written_back : (bs : List ℕ) → LowerDigits bs → map digit_char (map digit_value bs) ≡ bs
written_back [] h = refl
written_back (b ∷ bs) h = λ i. h.0.back i ∷ written_back bs h.1 i

first_value : (bs : List ℕ) → LowerDigits bs → get_or bs 0 0 ≢ 48 → 0 < length (map digit_value bs)
    → 0 < get_or (map digit_value bs) 0 0
first_value [] h other some = absurd (omega arith)
first_value (b ∷ bs) h other some = elim (cases_lt 0 (digit_value b)) [
  | inl more ↦ more
  | inr le ↦ (let zero_is : digit_value b ≡ 0 = omega arith in absurd (other (sym h.0.back ∙ ap digit_char zero_is)))
]

without_plus : (bs : List ℕ) → LowerDigits bs → without_leading_plus bs ≡ bs
without_plus [] h = refl
without_plus (b ∷ bs) h = rw (ne_eqb b 43 h.0.no_plus) refl

-- the text of digits, of which the first is not 0, is that of the number that is read
pub text_of_number : (bs : List ℕ) (n : ℕ) → list_all is_lower_hex bs ≡ true → get_or bs 0 0 ≢ 48
    → n ≡ digits_value 16 (without_leading_plus bs)
    → bs ≡ map digit_char (digits_of 16 n)
text_of_number bs n all lead read =
    let lower = lower_digits bs all in
    let digits = again (length (map digit_value bs)) (map digit_value bs) refl (below_base bs lower)
    (first_value bs lower lead) in
    let value : n ≡ number_from_digits 16 (map digit_value bs) =
    read ∙ ap (digits_value 16) (without_plus bs lower) ∙ digits_value_is 16 bs in
    sym (rw (value, digits) (written_back bs lower))

-- ---- what the text of a number is

lower_chars : (ds : List ℕ) → AllBelowBase 16 ds → list_all is_lower_hex (map digit_char ds) ≡ true
lower_chars [] h = refl
lower_chars (d ∷ ds) h = and_from _ _ (agree_below_at (λ d. is_lower_hex (digit_char d)) (λ _. true) 16 d refl h.0)
    (lower_chars ds h.1)

values_back : (ds : List ℕ) → AllBelowBase 16 ds → map digit_value (map digit_char ds) ≡ ds
values_back [] h = refl
values_back (d ∷ ds) h = λ i. digit_value-digit_char d (omega (arith, h.0)) i ∷ values_back ds h.1 i

first_char : (ds : List ℕ) → 0 < get_or ds 0 0 → AllBelowBase 16 ds → get_or (map digit_char ds) 0 0 ≢ 48
first_char [] more h = absurd (omega arith)
first_char (d ∷ ds) more h = λ e.
    let known : digit_value (digit_char d) ≡ d = digit_value-digit_char d (omega (arith, h.0)) in
    let none : digit_value (digit_char d) ≡ 0 = ap digit_value e in
    omega arith

pub record ReadsAs (bs : List ℕ) (n : ℕ) : Type 0 where
  pub lower : list_all is_lower_hex bs ≡ true
  pub lead : get_or bs 0 0 ≢ 48
  pub numeral : IsNumeral 16 (without_leading_plus bs)
  pub value : digits_value 16 (without_leading_plus bs) ≡ n

pub reads_back : (n : ℕ) → 0 < n → ReadsAs (map digit_char (digits_of 16 n)) n
reads_back n some =
    let ds = digits_of 16 n in
    let below = all_below_base_digits_of 16 n (omega arith) in
    let first = first_digits_of 16 n (omega arith) some in
    let all = lower_chars ds below in
    let lower = lower_digits (map digit_char ds) all in
    let plain = without_plus (map digit_char ds) lower in
    let value : digits_value 16 (map digit_char ds) ≡ n =
    digits_value_is 16 (map digit_char ds) ∙ ap (number_from_digits 16) (values_back ds below)
    ∙ number_digits_of 16 n (omega arith) in
    record {
      lower = all;
      lead = first_char ds first below;
      numeral = rw plain (nonempty ds first, all_digits (map digit_char ds) lower);
      value = ap (digits_value 16) plain ∙ value;
    }
  where
    nonempty : (ds : List ℕ) → 0 < get_or ds 0 0 → 0 < length (map digit_char ds)
    nonempty [] more = absurd (omega arith)
    nonempty (d ∷ ds) more = omega arith
