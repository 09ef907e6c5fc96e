use Rattle.std.proofs.Common.{inl, inr, refl}
use Rattle.ll_program.proofs.PerformedRuns.{as_spoken, as_whole, begun_spoken, begun_whole, opened_spoken}
use Rattle.ll_program.proofs.PerformedRuns.{unread_spoken}
use Rattle.ll_program.proofs.program.perform_asked.Goals as goal
