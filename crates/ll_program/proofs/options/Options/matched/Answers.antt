use Rattle.std.proofs.Common.{◌∙◌, ap, subst, map}
use Rattle.std.proofs.lemmas.Result.{IfOk-weaker}
use Rattle.clap.specs.Words.{App, FailsBy, fault_of, subcommand_of}
use Rattle.ll_program.proofs.Matched.{command_free, command_simple}
use Rattle.ll_program.proofs.options.Options.matched.Goals as goal

pub returns-clause-rows : goal.returns-clause-rows
returns-clause-rows c =
    let words = map (λ w. w.now) c.args.words.now in
    let app = c.in_ok-landtree_command.ensures in
    IfOk-weaker c.try_get_matches_from.result _ _
    (λ m has. (has (command_simple _ app)).1 ∙ ap (λ (a : App). subcommand_of a words) app)
    c.try_get_matches_from.ensures.matches

pub returns-clause-fault : goal.returns-clause-fault
returns-clause-fault c =
    let words = map (λ w. w.now) c.args.words.now in
    let app = c.in_ok-landtree_command.ensures in
    subst (λ (a : App). FailsBy (fault_of a words) c.try_get_matches_from.result) app
    (c.try_get_matches_from.ensures.kinds (command_free _ app))
