use Rattle.std.proofs.Common.{◌≡◌, map, take}
use Rattle.ll_check.specs.Checks.{tests_of}
use Rattle.ll_check.specs.Lessons.{lessons_of, picked}
use Rattle.ll_check.proofs.lessons.lessons_in.Given as goal

-- the lessons of the files so far
abbrev pub invariant-loop-file : goal.invariant-loop-file
invariant-loop-file l =
    map picked l.lessons.items ≡ map lessons_of (map tests_of (take l.file-index l.files))
