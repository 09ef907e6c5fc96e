use Rattle.std.proofs.Common.{map, take}
use Rattle.ll_check.specs.Checks.{tests_of}
use Rattle.ll_check.specs.Files.{AreTestsIn, source_of}
use Rattle.ll_check.proofs.checks.read_all.Given as goal

-- what is read so far
abbrev pub invariant-loop-file : goal.invariant-loop-file
invariant-loop-file l = AreTestsIn (map source_of (take l.file l.texts)) (map tests_of l.files.items)
