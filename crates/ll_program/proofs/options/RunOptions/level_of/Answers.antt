use Rattle.std.proofs.Common.{◌∙◌, ap, None, Some, codes}
use Rattle.std.specs.Prelude.{option_and_then}
use Rattle.clap.specs.Words.{found_of}
use Rattle.clap.proofs.WalkLemmas.{one_text-rows}
use Rattle.ll_program.specs.Options.{levels, number_in}
use Rattle.ll_program.proofs.Numbers.{level_allowed, number_read}
use Rattle.ll_program.proofs.options.RunOptions.level_of.Goals as goal

pub returns-in-None : goal.returns-in-None
returns-in-None c =
    let read = c.in-None.ensures in
    number_read 1 3 _ None read.none (λ t e. (read.value t e).1.0)
    ∙ ap (option_and_then (number_in levels)) (one_text-rows (found_of c.args.run.now) (codes "abi"))

pub returns-in-Some : goal.returns-in-Some
returns-in-Some c =
    let read = c.in-Some.ensures in
    level_allowed c.new.result c.in-Some.number c.new.ensures
    ∙ number_read 1 3 _ (Some c.in-Some.number) read.none (λ t e. (read.value t e).0)
    ∙ ap (option_and_then (number_in levels)) (one_text-rows (found_of c.args.run.now) (codes "abi"))
