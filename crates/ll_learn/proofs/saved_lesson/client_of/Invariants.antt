use Rattle.std.proofs.Common.{◌≡◌, drop}
use Rattle.ll_learn.specs.SavedLesson.{client_among, connected}
use Rattle.ll_learn.proofs.Connected.{later}
use Rattle.ll_learn.proofs.saved_lesson.client_of.Given as goal

-- the clients that are left decide
abbrev pub invariant-loop-entry : goal.invariant-loop-entry
invariant-loop-entry l =
    later l.first (connected (drop l.entry-index l.entries)) ≡ client_among (connected l.entries)
