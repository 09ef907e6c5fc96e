use Rattle.std.proofs.Common.{◌≡◌, ◌≤◌, ◌+◌, ◌++◌, ℕ, List, length}
use Rattle.ll_wire.specs.Pieces.{pieces}
use Rattle.ll_check.specs.Checks.{AreNamed, AreRead, at_start, reading_of}
use Rattle.ll_check.proofs.check_text.read_sections.Given as goal

-- the lines before the rest are read
abbrev pub invariant-loop-rest : goal.invariant-loop-rest
invariant-loop-rest l = (front : List (List ℕ)) × (pieces l.bytes ≡ front ++ pieces l.rest)
    × AreRead 1 front (at_start l.file) (reading_of l.lines) × (length front ≡ l.number)
    × (l.number + length l.rest ≤ length l.bytes) × AreNamed l.lines.names (reading_of l.lines)

abbrev pub decreases-loop-rest : goal.decreases-loop-rest
decreases-loop-rest l = length l.rest
