use Rattle.std.proofs.Common.{◌≡◌, ◌≤◌, ◌+◌, ◌++◌, ℕ, List, length}
use Rattle.ll_wire.specs.Pieces.{pieces}
use Rattle.ll_check.specs.Steps.{AreSteps}
use Rattle.ll_check.proofs.steps.read_steps.Given as goal

-- the lines before the rest are read
abbrev pub invariant-loop-rest : goal.invariant-loop-rest
invariant-loop-rest l = (front : List (List ℕ)) × (pieces l.bytes ≡ front ++ pieces l.rest)
    × AreSteps 1 front l.tests.items × (length front ≡ l.number)
    × (l.number + length l.rest ≤ length l.bytes)

abbrev pub decreases-loop-rest : goal.decreases-loop-rest
decreases-loop-rest l = length l.rest
