use Rattle.std.proofs.Common.{◌≡◌, ◌++◌, ℕ, List, length}
use Rattle.ll_wire.specs.Pieces.{pieces}
use Rattle.ll_audit.specs.Saved.{Tell}
use Rattle.ll_audit.proofs.saved.Saved.read.Given as goal

-- the lines before the rest are those of the header and the entries
abbrev pub invariant-loop-rest : goal.invariant-loop-rest
invariant-loop-rest l = (front : List (List ℕ)) × (pieces l.bytes ≡ front ++ pieces l.rest)
    × Tell front l.header l.entries.items

abbrev pub decreases-loop-rest : goal.decreases-loop-rest
decreases-loop-rest l = length l.rest
