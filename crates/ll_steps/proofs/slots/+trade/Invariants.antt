use Rattle.std.proofs.Common.{length}
use Rattle.ll_steps.proofs.slots.+trade.Given as goal

abbrev pub decreases-trade : goal.decreases-trade
decreases-trade l = length l.numbers.now
