-- What `parse` reads, and what numbers look like.
use Rattle.std.proofs.Common.{◌≡◌, ◌≢◌, ℕ, ◌<◌, List, [], ◌∷◌, length, get_or, Result, Ok, Err, Option, sym, ◌∙◌, arith}
use Rattle.std.proofs.Common.{inl, inr, ap, lit<}
use Rattle.std.specs.Str.Parse.{ParsesUnsigned, AllDigits, digits_value}
use Rattle.std.specs.Fmt.{decimal}
use Rattle.std.specs.Result.{result_ok}
use Rattle.std.proofs.lemmas.Str.Parse.{IsNumeralModel, numerals_by_value, tells_digits, parse_plain}
use Rattle.std.proofs.lemmas.Fmt.{decimal-digits_value, parse-decimal, first_decimal, decimal_nonempty, decimal_digit}
use Rattle.std.proofs.lemmas.Result.{OkIff-at_ok}
use Rattle.std.proofs.lemmas.Bool.{cases_lt}
use Rattle.ll_wire.specs.Parts.{SpellsNumber}
use Rattle.ll_wire.specs.Reads.{Finds}

own : IsNumeralModel (AllDigits 10) (digits_value 10)
own = numerals_by_value (AllDigits 10) tells_digits

pub found : {E : Type 0} (bs : List ℕ) (r : Result ℕ E) (n : ℕ) → ParsesUnsigned 64 10 bs r → get_or bs 0 0 ≢ 43
    → (get_or bs 0 0 ≡ 48 → length bs ≡ 1) → r ≡ Ok n → SpellsNumber bs n
found bs r n h plain short e =
    let k = OkIff-at_ok r _ _ n (parse_plain own 64 bs r h plain) e in
    (rw k.1 k.0.2, rw k.1 (sym (decimal-digits_value own bs k.0.0 k.0.1 short k.0.2)))

pub none : {E : Type 0} (bs : List ℕ) (r : Result ℕ E) (d : E) → ParsesUnsigned 64 10 bs r → r ≡ Err d → (n : ℕ)
    → SpellsNumber bs n → ⊥
none bs r d h e n is = let k = parse-decimal 64 n bs r is.0 is.0 is.1 h in cc

pub zero_text : decimal 0 ≡ 48 ∷ []
zero_text = decimal_digit 0 (lit< tt)

differ : (k : ℕ) → k ≡ 48 → k ≡ 43 → ⊥
differ k e f = absurd (omega arith)

pub no_plus : (bs : List ℕ) (n : ℕ) → SpellsNumber bs n → get_or bs 0 0 ≢ 43
no_plus bs n is plus = elim (cases_lt 0 n) [
  | inl more ↦ (let e : get_or (decimal n) 0 0 ≡ 43 = ap (λ (x : List ℕ). get_or x 0 0) (sym is.1)
      ∙ plus in let f : 48 < get_or (decimal n) 0 0 = first_decimal n more is.0 in absurd (omega arith))
  | inr le ↦ (let z : n ≡ 0 = omega arith in let e : bs ≡ 48 ∷ [] = is.1 ∙ ap decimal z
      ∙ zero_text in differ (get_or bs 0 0) (ap (λ (x : List ℕ). get_or x 0 0) e) plus)
]

pub one_zero : (bs : List ℕ) (n : ℕ) → SpellsNumber bs n → get_or bs 0 0 ≡ 48 → length bs ≡ 1
one_zero bs n is zero = elim (cases_lt 0 n) [
  | inl more ↦ (let e : get_or (decimal n) 0 0 ≡ 48 = ap (λ (x : List ℕ). get_or x 0 0) (sym is.1)
      ∙ zero in let f : 48 < get_or (decimal n) 0 0 = first_decimal n more is.0 in absurd (omega arith))
  | inr le ↦ (let z : n ≡ 0 = omega arith in ap length (is.1 ∙ ap decimal z ∙ zero_text))
]

pub not_empty : (bs : List ℕ) (n : ℕ) → SpellsNumber bs n → 0 < length bs
not_empty bs n is = rw is.1 (decimal_nonempty n is.0)

pub number_is : {E : Type 0} (bs : List ℕ) (r : Result ℕ E) (o : Option ℕ) → ParsesUnsigned 64 10 bs r
    → get_or bs 0 0 ≢ 43 → (get_or bs 0 0 ≡ 48 → length bs ≡ 1) → o ≡ result_ok r → Finds (SpellsNumber bs) o
number_is {E} bs (Ok n) o h plain short e = let k = found {E = E} bs (Ok n) n h plain short (λ _. Ok n) in rw e k
number_is {E} bs (Err d) o h plain short e = rw e (none {E = E} bs (Err d) d h (λ _. Err d))
