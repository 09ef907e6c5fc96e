use Rattle.std.proofs.Common.{map, take}
use Rattle.ll_program.specs.Options.{checked_in}
use Rattle.ll_check.specs.Races.{AreRun}
use Rattle.ll_check.specs.Steps.{steps_of}
use Rattle.ll_check.proofs.races.run_all.Given as goal

-- what the schedules so far have given
abbrev pub invariant-loop-file : goal.invariant-loop-file
invariant-loop-file l =
    AreRun (checked_in l.options) (map steps_of (take l.file-index l.files)) l.fn.report.items l.report.items l.sum
