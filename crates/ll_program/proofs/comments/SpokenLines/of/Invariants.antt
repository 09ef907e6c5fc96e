use Rattle.std.proofs.Common.{◌≡◌, ◌≤◌, ◌+◌, ◌++◌, length, map}
use Rattle.std.specs.List.{flat_map}
use Rattle.ll_wire.specs.Pieces.{pieces}
use Rattle.ll_program.specs.Comments.{number_in, spoken, spoken_numbers, spoken_text, with_feed}
use Rattle.ll_program.proofs.comments.SpokenLines.of.Given as goal

-- the lines before the rest are taken
abbrev pub invariant-loop-rest : goal.invariant-loop-rest
invariant-loop-rest l =
    (l.lines.text.items ++ flat_map with_feed (spoken (l.number + 1) (pieces l.rest)) ≡ spoken_text l.script)
    × (l.lines.numbers.items ++ map number_in (spoken (l.number + 1) (pieces l.rest)) ≡ spoken_numbers l.script)
    × (l.number + length l.rest ≤ length l.script)

abbrev pub decreases-loop-rest : goal.decreases-loop-rest
decreases-loop-rest l = length l.rest
