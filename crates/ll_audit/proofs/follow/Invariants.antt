use Rattle.ll_audit.proofs.Follows.{HasFollowed}
use Rattle.ll_audit.proofs.follow.Given as goal

abbrev pub invariant-loop-i : goal.invariant-loop-i
invariant-loop-i l = HasFollowed l.fn.tree l.entries l.i l.tree
