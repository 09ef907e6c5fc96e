use Rattle.ll_program.proofs.failure.FailureDisplay.fmt.Goals as goal

pub returns-in-Output-clause-writes : goal.returns-in-Output-clause-writes
returns-in-Output-clause-writes g c = rw c.in-Output.is c.write_str-in-Output.ensures.writes
