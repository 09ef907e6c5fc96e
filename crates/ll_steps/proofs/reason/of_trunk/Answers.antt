use Rattle.std.specs.Prelude.{refl}
use Rattle.ll_journal.specs.declared.station.Station.TheVariants as station
use Rattle.ll_steps.proofs.ReasonsFound.{fork_ahead, fork_blocked, fork_once}
use Rattle.ll_steps.proofs.reason.of_trunk.Goals as goal

pub returns-then-not-has_two_paths : goal.returns-then-not-has_two_paths
returns-then-not-has_two_paths c = fork_once c.args.journal.now.world c.args.client station.Trunk c.requires.trunk refl
    c.has_two_paths.result c.has_two_paths.ensures c.if-not-has_two_paths.true

pub returns-in-Some : goal.returns-in-Some
returns-in-Some c =
    fork_ahead c.args.journal.now c.args.client c.requires.trunk c.in-Some.field-0 c.in-Some.ensures.some

pub returns-in-None : goal.returns-in-None
returns-in-None c = fork_blocked c.args.journal.now c.args.client c.requires.trunk c.in-None.ensures.none
