use Rattle.std.proofs.Common.{◌∙◌, sym}
use Rattle.ll_check.proofs.learned_files.learned_from.Goals as goal

pub returns-then-is_of_lessons-clause-nothing : goal.returns-then-is_of_lessons-clause-nothing
returns-then-is_of_lessons-clause-nothing g c =
    (c.in-Err.fault, sym c.is_of_lessons.ensures ∙ c.if-is_of_lessons.true, c.in-Err.ensures.fault)
