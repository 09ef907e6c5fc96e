use Rattle.std.specs.Vec.Iter.{into_iter_len}
use Rattle.ll_trials.proofs.storm.gather.Given as goal

abbrev pub decreases-loop-clients : goal.decreases-loop-clients
decreases-loop-clients g l = into_iter_len l.rest
