use Rattle.ll_journal.proofs.Markers.{NobodyBefore}
use Rattle.ll_journal.proofs.aftermath.marker.Given as goal

abbrev pub invariant-loop-place : goal.invariant-loop-place
invariant-loop-place l = NobodyBefore l.seats l.inode l.place
