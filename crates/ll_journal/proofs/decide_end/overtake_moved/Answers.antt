use Rattle.ll_journal.proofs.DecidedCalls.{none_overtaken}
use Rattle.ll_journal.proofs.decide_end.overtake_moved.Goals as goal

pub returns-in-None-None : goal.returns-in-None-None
returns-in-None-None c = none_overtaken c.args.seats.now.items c.args.moved c.in-None-None.is-0 c.in-None-None.is-1
