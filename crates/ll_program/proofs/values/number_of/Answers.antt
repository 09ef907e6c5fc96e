use Rattle.std.proofs.Common.{◌≡◌, ◌∙◌, ap, arith, rules, inl, inr, ℕ, Some, None}
use Rattle.std.specs.Prelude.{option_and_then}
use Rattle.clap.specs.Words.{Text, found_of, one_of, one_text, rows_of}
use Rattle.clap.proofs.WalkLemmas.{one_text-rows}
use Rattle.clap.specs.declared.builder.value_parser.ValueParser.TheVariants.{Unsigned}
use Rattle.clap.specs.declared.parser.matches.Found.{Found}
use Rattle.ll_program.specs.Options.{number_in}
use Rattle.ll_program.proofs.Numbers.{beyond, number_read, within}
use Rattle.ll_program.proofs.values.number_of.Goals as goal

-- the word that is read, as the rows tell it
in_rows : (f : Found) (name : Text) (low high : ℕ)
    → option_and_then (number_in (Unsigned low high)) (one_text f name)
    ≡ option_and_then (number_in (Unsigned low high)) (one_of name (rows_of f))
in_rows f name low high = ap (option_and_then (number_in (Unsigned low high))) (one_text-rows f name)

pub returns-in_err-number-clause-number : goal.returns-in_err-number-clause-number
returns-in_err-number-clause-number c =
    let read = c.in_err-number.ensures in
    c.from_residual.ensures
    ∙ number_read c.args.low c.args.high _ None read.none (λ t e. (read.value t e).1.0)
    ∙ in_rows (found_of c.args.matches.now) c.args.name.now c.args.low c.args.high

pub returns-then-number-low-clause-number : goal.returns-then-number-low-clause-number
returns-then-number-low-clause-number c =
    let read = c.in_ok-number.ensures in
    beyond c.args.low c.args.high c.in_ok-number.number (λ h. elim c.then-number-low.either [
      | inl less ↦ (let a = h.0 in omega (arith, less))
      | inr more ↦ (let a = h.1 in omega (arith, more.1))
    ])
    ∙ number_read c.args.low c.args.high _ (Some c.in_ok-number.number) read.none (λ t e. (read.value t e).0)
    ∙ in_rows (found_of c.args.matches.now) c.args.name.now c.args.low c.args.high

pub returns-clause-number : goal.returns-clause-number
returns-clause-number c =
    let read = c.in_ok-number.ensures in
    within c.args.low c.args.high c.in_ok-number.number (search rules) (search rules)
    ∙ number_read c.args.low c.args.high _ (Some c.in_ok-number.number) read.none (λ t e. (read.value t e).0)
    ∙ in_rows (found_of c.args.matches.now) c.args.name.now c.args.low c.args.high
