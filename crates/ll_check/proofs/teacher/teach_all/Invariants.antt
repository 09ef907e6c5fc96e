use Rattle.std.proofs.Common.{map, take}
use Rattle.std.specs.List.{AllZip}
use Rattle.ll_program.specs.Options.{learn_in}
use Rattle.ll_check.specs.Lessons.{AreTaught, picked}
use Rattle.ll_check.proofs.teacher.teach_all.Given as goal

-- the lessons of the files so far are made
abbrev pub invariant-loop-file : goal.invariant-loop-file
invariant-loop-file g l =
    AllZip (AreTaught (learn_in l.trees.options.now) l.trees.policy.now)
    (map picked (take l.file-index l.files)) (map (λ history. history.entries) l.histories.items)
