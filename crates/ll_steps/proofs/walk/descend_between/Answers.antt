use Rattle.ll_steps.proofs.WalkMakes.{no_loop}
use Rattle.ll_steps.proofs.walk.descend_between.Goals as goal

pub returns-then-from-to-clause-makes : goal.returns-then-from-to-clause-makes
returns-then-from-to-clause-makes c =
    no_loop c.args.journal.now c.args.client c.args.from c.args.to c.if-from-to.true c.requires.next
