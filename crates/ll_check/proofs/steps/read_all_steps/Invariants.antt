use Rattle.std.proofs.Common.{map, take}
use Rattle.std.specs.List.{AllZip}
use Rattle.ll_check.specs.Files.{source_of}
use Rattle.ll_check.specs.Steps.{IsStepsOf, steps_of}
use Rattle.ll_check.proofs.steps.read_all_steps.Given as goal

-- what is read so far
abbrev pub invariant-loop-file : goal.invariant-loop-file
invariant-loop-file l = AllZip IsStepsOf (map source_of (take l.file l.texts)) (map steps_of l.files.items)
