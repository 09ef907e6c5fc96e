use Rattle.std.proofs.Common.{◌≡◌, ◌∙◌, ℕ, Option, Some, None, Result, Ok, Err, sym, subst}
use Rattle.std.specs.Result.{result_ok}
use Rattle.std.specs.Str.Parse.{ParsesUnsigned}
use Rattle.clap.specs.Words.{Text}
use Rattle.ll_program.proofs.Numbers.{Reads, number_read, within}
use Rattle.ll_program.proofs.values.number_in.Goals as goal

-- what is parsed of a text is what it reads as
read_as : {E : Type 0} (t : Text) (r : Result ℕ E) (o : Option ℕ) → ParsesUnsigned 64 10 t r → o ≡ result_ok r
    → Reads t o
read_as t (Ok n) o h e = subst (Reads t) (sym e) h
read_as t (Err d) o h e = subst (Reads t) (sym e) h

some_same : (t u : Text) (o : Option ℕ) → Reads t o → ◌≡◌ {A = Option Text} (Some t) (Some u) → Reads u o
some_same t u o h e = let same : t ≡ u = cc in subst (λ (x : Text). Reads x o) same h

pub returns-in_err-number : goal.returns-in_err-number
returns-in_err-number c =
    let word = c.args.word.now in
    let read = read_as word c.parse.result None c.parse.ensures.value.0 c.in_err-number.ensures.value in
    c.from_residual.ensures
    ∙ number_read c.args.low c.args.high (Some word) None (λ e. absurd cc) (λ t e. some_same word t None read e)

pub returns : goal.returns
returns c =
    let word = c.args.word.now in
    let number = c.in_ok-number.number in
    let read = read_as word c.parse.result (Some number) c.parse.ensures.value.0 c.in_ok-number.ensures.value in
    within c.args.low c.args.high number c.if-number-low.false c.if-high-number.false
    ∙ number_read c.args.low c.args.high (Some word) (Some number) (λ e. absurd cc)
    (λ t e. some_same word t (Some number) read e)
