use Rattle.std.proofs.Common.{length}
use Rattle.ll_steps.proofs.reason.+first_in_way.Given as goal

abbrev pub decreases-first_in_way : goal.decreases-first_in_way
decreases-first_in_way l = length l.numbers.now
