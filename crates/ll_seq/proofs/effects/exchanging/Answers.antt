use Rattle.ll_seq.proofs.LastNames.{exchange_of_one}
use Rattle.ll_seq.proofs.effects.exchanging.Goals as goal

pub returns-then-first-second-clause-done : goal.returns-then-first-second-clause-done
returns-then-first-second-clause-done c s n who one other =
    exchange_of_one s c.args.old c.args.new c.args.first c.args.second c.if-first-second.true one other
