use Rattle.ll_steps.proofs.ReasonsFound.{way_ahead, way_blocked}
use Rattle.ll_steps.proofs.reason.of_way.Goals as goal

pub returns-in-Some : goal.returns-in-Some
returns-in-Some c = way_ahead c.args.journal.now c.requires.kept.sound c.args.client c.requires.more
    c.in-Some.field-0 c.in-Some.ensures.some

pub returns-in-None : goal.returns-in-None
returns-in-None c =
    way_blocked c.args.journal.now c.requires.kept.sound c.args.client c.requires.more c.in-None.ensures.none
