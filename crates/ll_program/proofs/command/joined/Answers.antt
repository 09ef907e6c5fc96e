use Rattle.std.proofs.Common.{◌≡◌, ◌∙◌, ap, ap₂, false}
use Rattle.std.proofs.lemmas.Result.{IfOk-at_ok, IfOk-weaker}
use Rattle.clap.specs.Words.{App, app_of, with_subcommand}
use Rattle.clap.specs.declared.builder.command.Command.{Command}
use Rattle.clap.specs.declared.builder.command.Command.TheViews.{out-Command as fields_of}
use Rattle.ll_program.proofs.command.joined.Goals as goal

pub returns : goal.returns
returns c = λ top added command_is subcommand_is.
    let old = IfOk-at_ok (λ (x : Command). app_of x ≡ top) c.in_ok-command.was command_is in
    let new = IfOk-at_ok (λ (x : Command). app_of x ≡ added) c.in_ok-subcommand.was subcommand_is in
    let local = IfOk-at_ok (λ (x : Command). (fields_of x).has_globals ≡ false) c.in_ok-subcommand.was c.requires in
    IfOk-weaker c.subcommand.result _ _
    (λ made adds. adds.shape local ∙ ap₂ with_subcommand old (ap (λ (a : App). a.top) new)) c.subcommand.ensures
