use Rattle.std.proofs.Common.{◌≡◌, List, inl, inr, map, subst, sym, ℕ}
use Rattle.ll_program.specs.Paths.{IsOfWords}
use Rattle.ll_program.specs.declared.failure.Failure.{Failure}
use Rattle.ll_program.specs.declared.failure.Failure.TheVariants.{CommandLine}
use Rattle.ll_commands.specs.Why.{HasNoCommand}
use Rattle.ll_embed.specs.Lines.{LacksCommand}
use Rattle.ll_embed.proofs.Questioned.{bad_before, bad_last, handed_on, last_line, no_line, of_words}
use Rattle.ll_embed.proofs.explained.calls_in.Goals as goal

pub returns-in_err-lines-clause-bad : goal.returns-in_err-lines-clause-bad
returns-in_err-lines-clause-bad c =
    handed_on c.from_residual.result c.in_err-lines.field-0.0
    (λ (failure : Failure). failure ≡ CommandLine → LacksCommand c.args.commands.now) c.from_residual.ensures.1
    (λ told. inl (c.in_err-lines.ensures.bad told))

pub returns-in_default-clause-bad : goal.returns-in_default-clause-bad
returns-in_default-clause-bad c told =
    inr (inl (no_line c.in_ok-lines.lines.items c.as_slice.result.now _ c.as_slice.ensures.value
    c.in_default.ensures.cases c.in_ok-lines.ensures.lines))

pub returns-in_err-before-clause-bad : goal.returns-in_err-before-clause-bad
returns-in_err-before-clause-bad c =
    let before = map (λ l. l.now) c.in-Some.before.now in
    let lines = last_line c.in_ok-lines.lines.items c.as_slice.result.now c.in-Some.before.now c.in-Some.last.now _
    c.as_slice.ensures.value c.in-Some.ensures.cases.0 c.in_ok-lines.ensures.lines in
    handed_on c.from_residual-in_err-before.result c.in_err-before.field-0.0
    (λ (failure : Failure). failure ≡ CommandLine → LacksCommand c.args.commands.now)
    c.from_residual-in_err-before.ensures.1
    (λ told. inr (inr (subst HasNoCommand (sym lines)
    (bad_before before c.in-Some.last.now.now (c.in_err-before.ensures.bad told)))))

pub returns-in_err-before-clause-failure : goal.returns-in_err-before-clause-failure
returns-in_err-before-clause-failure c =
    handed_on c.from_residual-in_err-before.result c.in_err-before.field-0.0 IsOfWords
    c.from_residual-in_err-before.ensures.1 (of_words c.in_err-before.field-0.0 c.in_err-before.ensures.failure)

pub returns-in-Ok-clause-calls : goal.returns-in-Ok-clause-calls
returns-in-Ok-clause-calls c = (
  map (λ l. l.now) c.in-Some.before.now,
  c.in-Some.last.now.now,
  last_line c.in_ok-lines.lines.items c.as_slice.result.now c.in-Some.before.now c.in-Some.last.now _
      c.as_slice.ensures.value c.in-Some.ensures.cases.0 c.in_ok-lines.ensures.lines,
  c.in_ok-before.ensures.calls,
  c.in-Ok.ensures.call,
)

pub returns-clause-bad : goal.returns-clause-bad
returns-clause-bad c told =
    let before = map (λ l. l.now) c.in-Some.before.now in
    let lines = last_line c.in_ok-lines.lines.items c.as_slice.result.now c.in-Some.before.now c.in-Some.last.now _
    c.as_slice.ensures.value c.in-Some.ensures.cases.0 c.in_ok-lines.ensures.lines in
    inr (inr (subst HasNoCommand (sym lines) (bad_last before c.in-Some.last.now.now (c.in-Err.ensures.bad told))))

pub returns-clause-failure : goal.returns-clause-failure
returns-clause-failure c = of_words c.in-Err.failure c.in-Err.ensures.failure
