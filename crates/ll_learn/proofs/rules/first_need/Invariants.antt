use Rattle.std.specs.Prelude.{IfSome}
use Rattle.ll_learn.specs.Lesson.{IsNeededBy}
use Rattle.ll_learn.proofs.rules.first_need.Given as goal

abbrev pub invariant-loop-right : goal.invariant-loop-right
invariant-loop-right l = IfSome l.first (IsNeededBy l.draft l.needs l.inode)
