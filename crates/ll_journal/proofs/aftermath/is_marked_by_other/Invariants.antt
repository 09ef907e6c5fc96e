use Rattle.ll_journal.proofs.StaleWalks.{NoneBefore}
use Rattle.ll_journal.proofs.aftermath.is_marked_by_other.Given as goal

abbrev pub invariant-loop-place : goal.invariant-loop-place
invariant-loop-place l = NoneBefore l.seats l.client l.inode l.place
