use Rattle.std.specs.Prelude.{refl}
use Rattle.ll_journal.specs.declared.station.Station.TheVariants as station
use Rattle.ll_steps.proofs.ReasonsFound.{fork_above, fork_once}
use Rattle.ll_steps.proofs.reason.of_top.Goals as goal

pub returns-then-has_two_paths : goal.returns-then-has_two_paths
returns-then-has_two_paths c = fork_above c.args.journal.now.world c.args.client station.Above c.requires refl
    c.has_two_paths.result c.has_two_paths.ensures refl

pub returns-else-has_two_paths : goal.returns-else-has_two_paths
returns-else-has_two_paths c = fork_once c.args.journal.now.world c.args.client station.Above c.requires refl
    c.has_two_paths.result c.has_two_paths.ensures c.if-has_two_paths.false
