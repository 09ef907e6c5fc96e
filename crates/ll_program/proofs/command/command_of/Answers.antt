use Rattle.std.proofs.Common.{◌∙◌, ap}
use Rattle.std.proofs.lemmas.Result.{IfOk-weaker}
use Rattle.clap.specs.Words.{new_app}
use Rattle.clap.specs.Simple.{app_of_fields}
use Rattle.clap.specs.declared.builder.command.Command.{Command}
use Rattle.clap.specs.declared.builder.command.Command.TheOpen.{Command-F}
use Rattle.ll_program.proofs.Added.{app_after, local_after}
use Rattle.ll_program.proofs.command.command_of.Goals as goal

pub returns : goal.returns
returns c =
    let items = c.args.arguments.items in
    record {
      app = IfOk-weaker c.args-2.result _ _ (λ made adds. app_after c.after_help.result made items
          (new_app c.args.name.now)
          (ap app_of_fields c.after_help.ensures ∙ ap app_of_fields c.about.ensures ∙ c.new.ensures.app)
          c.requires adds) c.args-2.ensures;
      local = IfOk-weaker c.args-2.result _ _ (λ made adds. local_after c.after_help.result made items
          (ap (λ (f : Command-F Command). f.has_globals) c.after_help.ensures
          ∙ ap (λ (f : Command-F Command). f.has_globals) c.about.ensures ∙ c.new.ensures.local) c.requires adds)
          c.args-2.ensures;
    }
