use Rattle.std.specs.Prelude.{refl}
use Rattle.ll_journal.specs.declared.station.Station.TheVariants as station
use Rattle.ll_steps.proofs.ReasonsFound.{fork_ended, fork_once}
use Rattle.ll_steps.proofs.reason.of_ended.Goals as goal

pub returns-then-has_two_paths : goal.returns-then-has_two_paths
returns-then-has_two_paths c = fork_ended c.args.journal.now.world c.args.client station.End c.requires refl
    c.has_two_paths.result c.has_two_paths.ensures refl c.if-has_two_paths.true

pub returns-else-has_two_paths : goal.returns-else-has_two_paths
returns-else-has_two_paths c = fork_once c.args.journal.now.world c.args.client station.End c.requires refl
    c.has_two_paths.result c.has_two_paths.ensures c.if-has_two_paths.false
