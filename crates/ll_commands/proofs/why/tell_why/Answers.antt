use Rattle.std.specs.Prelude.{Err, refl}
use Rattle.std.proofs.Common.{inl, ◌≡◌, rules}
use Rattle.ll_program.specs.Options.{asked_by, why_in}
use Rattle.ll_commands.specs.Why.{IsTold, LacksAnswer, answer_text, why_style}
use Rattle.ll_commands.proofs.Failures.{lacks_memory}
use Rattle.ll_commands.proofs.Written.{starved_or_broken}
use Rattle.ll_commands.proofs.why.tell_why.Goals as goal

pub returns-in_err-answer-clause-failure : goal.returns-in_err-answer-clause-failure
returns-in_err-answer-clause-failure g c =
    let same : c.from_residual.result ≡ Err c.in_err-answer.field-0.0 = search rules in
    rw same (let fails = c.in_err-answer.ensures.failure in
    (fails.0, fails.1, inl (fails.2, refl)))

pub returns-clause-failure : goal.returns-clause-failure
returns-clause-failure g c =
    let order = why_in c.args.options.now in
    let style = why_style order.form in
    let answer = c.in_ok-answer.answer in
    let is = c.in_ok-answer.ensures.told in
    starved_or_broken (g.R.Read.remaining c.args.file.now) (g.W.Write.contents c.args.out.now)
    (g.W.Write.contents c.write_answer.new.out) (IsTold order) is.0 (answer_text answer) is.1 (answer, is.2, refl)
    {A = Unit {0}} (LacksAnswer order) (lacks_memory style order.nodes (asked_by order) is.0 answer is.2)
    (Err c.in-Err.failure) c.in-Err.ensures.failure
