use Rattle.std.proofs.Common.{length}
use Rattle.ll_audit.proofs.FollowedParts.{HasFollowed}
use Rattle.ll_audit.proofs.parts.follow_parts.Given as goal

abbrev pub invariant-loop-rest : goal.invariant-loop-rest
invariant-loop-rest g l = HasFollowed l.fn.tree l.entries l.rest l.tree

abbrev pub decreases-loop-rest : goal.decreases-loop-rest
decreases-loop-rest g l = length l.rest
