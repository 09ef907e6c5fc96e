use Rattle.std.proofs.Common.{length}
use Rattle.landtree.proofs.hints.bad_lines.Given as goal

abbrev pub decreases-loop-found : goal.decreases-loop-found
decreases-loop-found l = length l.rest
