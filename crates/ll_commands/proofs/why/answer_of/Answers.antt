use Rattle.std.proofs.Common.{Bor, Option, Some, ap, map, sym, subst, refl, inr, ◌∙◌}
use Rattle.clap.specs.Words.{Text}
use Rattle.std.proofs.lemmas.Result.{IfErr-weaker, IfOk-weaker}
use Rattle.ll_program.specs.Options.{Asked, TreeOrder, question_of, tree_in}
use Rattle.ll_program.specs.declared.why.Question.{Question}
use Rattle.ll_program.specs.declared.failure.Failure.TheVariants.{CommandLine}
use Rattle.ll_commands.specs.Why.{Answers, CommandAnswers, CommandFails, EntryAnswers, Fails, why_style}
use Rattle.ll_why.specs.declared.style.WhyStyle.{WhyStyle}
use Rattle.ll_commands.proofs.Rows.{left}
use Rattle.ll_commands.proofs.why.answer_of.Goals as goal

pub returns-in-None-clause-failure : goal.returns-in-None-clause-failure
returns-in-None-clause-failure g c =
    let t = left (g.R.Read.remaining c.args.file.now) in
    let nodes = c.args.options.now.nodes in
    (t.0, t.1, subst (λ (a : Option Asked). Fails nodes a t.0 CommandLine) c.in-None.ensures refl)

pub returns-in-Some-Command-clause-failure : goal.returns-in-Some-Command-clause-failure
returns-in-Some-Command-clause-failure g c =
    let nodes = c.args.options.now.nodes in
    let it = c.in-Some-Command.asked in
    let before = map (λ (w : Bor Text). w.now) it.before.now in
    let asked = sym (ap (λ (q : Question). Some (question_of q)) c.in-Some-Command.field-0-is)
    ∙ c.in-Some-Command.ensures in
    IfErr-weaker c.answer_of_command.result _ _ (λ failure h. (
      h.0,
      h.1,
      subst (λ (a : Option Asked). Fails nodes a h.0 failure) asked
          (subst (λ (run : TreeOrder). CommandFails run before it.command.now h.0 failure)
          c.of_profile-tree.ensures h.2),
    )) c.answer_of_command.ensures.failure

pub returns-in-Some-Command-clause-told : goal.returns-in-Some-Command-clause-told
returns-in-Some-Command-clause-told g c =
    let nodes = c.args.options.now.nodes in
    let style = why_style c.args.options.now.form in
    let it = c.in-Some-Command.asked in
    let before = map (λ (w : Bor Text). w.now) it.before.now in
    let asked = sym (ap (λ (q : Question). Some (question_of q)) c.in-Some-Command.field-0-is)
    ∙ c.in-Some-Command.ensures in
    IfOk-weaker c.answer_of_command.result _ _ (λ answer h. (
      h.0,
      h.1,
      subst (λ (a : Option Asked). Answers style nodes a h.0 answer) asked
          (subst (λ (tree : TreeOrder). CommandAnswers style tree before it.command.now h.0 answer)
          c.of_profile-tree.ensures
          (subst (λ (s : WhyStyle). CommandAnswers s (tree_in c.of_profile-tree.result) before it.command.now h.0
          answer)
          c.why_style-style.ensures h.2)),
    )) c.answer_of_command.ensures.told

pub returns-in-Some-Entry-clause-told : goal.returns-in-Some-Entry-clause-told
returns-in-Some-Entry-clause-told g c =
    let nodes = c.args.options.now.nodes in
    let style = why_style c.args.options.now.form in
    let number = c.in-Some-Entry.number in
    let asked = sym (ap (λ (q : Question). Some (question_of q)) c.in-Some-Entry.field-0-is)
    ∙ c.in-Some-Entry.ensures in
    IfOk-weaker c.answer_of_entry.result _ _ (λ answer h. (
      h.0,
      h.1,
      subst (λ (a : Option Asked). Answers style nodes a h.0 answer) asked
          (subst (λ (s : WhyStyle). EntryAnswers s number h.0 answer) c.why_style-style.ensures h.2),
    )) c.answer_of_entry.ensures.told
