use Rattle.std.proofs.Common.{◌≡◌, length}
use Rattle.ll_why.specs.Opener.{openings}
use Rattle.ll_why.proofs.opener.opening_in.Given as goal

-- what the last holder has behind the entries that are left
abbrev pub invariant-loop-last : goal.invariant-loop-last
invariant-loop-last l = openings l.entries l.client l.descriptor ≡ openings l.rest l.holder l.descriptor

abbrev pub decreases-loop-last : goal.decreases-loop-last
decreases-loop-last l = length l.rest
