use Rattle.ll_plain.specs.BoundedReach.{Found}
use Rattle.ll_plain.proofs.Reaches.{Tried}
use Rattle.ll_plain.proofs.Plain.+reach_within.Given as goal

abbrev pub decreases-reach_within : goal.decreases-reach_within
decreases-reach_within l = l.steps

abbrev pub invariant-loop-row : goal.invariant-loop-row
invariant-loop-row l = Found l.self l.layer (Tried l.self l.steps l.inode l.row-index) l.found
