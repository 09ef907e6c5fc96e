use Rattle.ll_policy.proofs.Nearest.{IsNearest}
use Rattle.ll_policy.proofs.meant_rights.right_meant.Given as goal

-- of the rights so far
abbrev pub invariant-loop-right : goal.invariant-loop-right
invariant-loop-right l = IsNearest l.word l.right-index l.nearest l.least
