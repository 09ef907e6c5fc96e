use Rattle.std.proofs.Common.{◌≡◌, ℕ, ◌<◌, List, map, sym, subst, ◌∙◌, lit<, arith}
use Rattle.std.specs.Char.{digit_char}
use Rattle.std.specs.Int.Digits.{digits_of}
use Rattle.std.proofs.lemmas.Bool.{false≢true}
use Rattle.std.proofs.lemmas.Bool.Decides.{not_from_Decides}
use Rattle.std.proofs.lemmas.Str.Pattern.{starts_char}
use Rattle.ll_rights.proofs.Hex.{ReadsAs, text_of_number, reads_back}
use Rattle.ll_rights.proofs.access.Access.parse_number.Goals as goal
use Rattle.ll_rights.proofs.access.Access.parse_number.Goals.{then-starts_with-via-then-starts_with}
use Rattle.ll_rights.proofs.access.Access.parse_number.Goals.{then-starts_with-via-else-starts_with+then-not-is_lower_hex}

reads : (text : List ℕ) (n : ℕ) → 0 < n → text ≡ map digit_char (digits_of 16 n) → ReadsAs text n
reads text n some same = subst (λ bs. ReadsAs bs n) (sym same) (reads_back n some)

pub returns-then-starts_with-clause-none : goal.returns-then-starts_with-clause-none
returns-then-starts_with-clause-none c = λ set unknown small same.
    let known = reads c.args.digits.now set (omega arith) same in
    elim c.then-starts_with.branch [
      | then-starts_with-via-then-starts_with w ↦
          known.lead ((starts_char 48 _ _ c.starts_with.ensures.cases (lit< tt) (lit< tt)).0 w.if-starts_with.true)
      | then-starts_with-via-else-starts_with+then-not-is_lower_hex w ↦
          false≢true (sym w.if-not-is_lower_hex.true ∙ w.is_lower_hex.ensures ∙ known.lower)
    ]

pub returns-in-Ok-clause-found : goal.returns-in-Ok-clause-found
returns-in-Ok-clause-found c =
    let lead = not_from_Decides _ (starts_char 48 _ _ c.starts_with.ensures.cases (lit< tt) (lit< tt))
    c.if-starts_with.false in (
      omega arith,
      text_of_number c.args.digits.now c.in-Ok.set (sym c.if-not-is_lower_hex.ensures) lead
          c.in-Ok.ensures.value.1,
    )

pub returns-in_default-clause-none : goal.returns-in_default-clause-none
returns-in_default-clause-none c = λ set unknown small same.
    let known = reads c.args.digits.now set (omega arith) same in
    omega (arith, known.value, c.in-Ok.ensures.value.1)

pub returns-in_default-2-clause-none : goal.returns-in_default-2-clause-none
returns-in_default-2-clause-none c = λ set unknown small same.
    let known = reads c.args.digits.now set (omega arith) same in
    c.in_default.ensures.value (known.numeral, omega (arith, known.value))
