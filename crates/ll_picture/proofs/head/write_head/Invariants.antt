use Rattle.std.proofs.Common.{string_bytes}
use Rattle.ll_picture.specs.Pictures.{HasMarks, IsFrontOf}
use Rattle.ll_picture.proofs.head.write_head.Given as goal

-- the columns before this one have their marks
abbrev pub invariant-loop-column : goal.invariant-loop-column
invariant-loop-column l = IsFrontOf (string_bytes l.initial.canvas.text) (string_bytes l.canvas.text)
    × HasMarks l.column-index (string_bytes l.canvas.text)
