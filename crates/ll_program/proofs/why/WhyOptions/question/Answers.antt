use Rattle.ll_program.proofs.Questions.{asked_there}
use Rattle.ll_program.proofs.why.WhyOptions.question.Goals as goal

pub returns-in_ok-command-in_default-Some-Some : goal.returns-in_ok-command-in_default-Some-Some
returns-in_ok-command-in_default-Some-Some c =
    let it = c.in_ok-command-in_default-Some-Some in
    asked_there c.args.self.now _ it.before.now it.command.now c.in_default-Some-Some.policy
    c.in_default-Some-Some.profile c.as_slice-words.ensures.value c.in_default-Some-Some.is-1
    c.in_default-Some-Some.is-2 it.ensures.cases.0
