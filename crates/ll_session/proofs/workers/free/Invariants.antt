use Rattle.std.proofs.Common.{◌≡◌, []}
use Rattle.std.specs.List.{All}
use Rattle.std.specs.Vec.Iter.{into_iter_items, into_iter_len}
use Rattle.ll_session.proofs.workers.free.Given as goal

-- nothing is in the rooms that are left
abbrev pub invariant-loop-room : goal.invariant-loop-room
invariant-loop-room g l = All (λ room. room.items ≡ []) (into_iter_items l.rest)

abbrev pub decreases-loop-room : goal.decreases-loop-room
decreases-loop-room g l = into_iter_len l.rest
