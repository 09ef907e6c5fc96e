use Rattle.std.proofs.Common.{map, take}
use Rattle.std.specs.List.{AllZip}
use Rattle.ll_check.specs.Lessons.{IsLearnedFrom}
use Rattle.ll_check.proofs.teacher.are_met.Given as goal

-- those so far are as they must be
abbrev pub invariant-loop-i : goal.invariant-loop-i
invariant-loop-i g l =
    AllZip IsLearnedFrom (take l.i (map (λ t. t.now) l.lessons)) (take l.i l.replies)
