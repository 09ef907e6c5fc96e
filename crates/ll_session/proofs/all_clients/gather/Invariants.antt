use Rattle.std.proofs.Common.{◌≡◌, ◌++◌}
use Rattle.std.specs.Prelude.{flat_map}
use Rattle.std.specs.Vec.Iter.{into_iter_items, into_iter_len}
use Rattle.ll_session.proofs.all_clients.gather.Given as goal

abbrev pub invariant-loop-room : goal.invariant-loop-room
invariant-loop-room g l =
    l.all.items ++ flat_map (λ room. flat_map (λ it. it.clients.items) room.items) (into_iter_items l.rest)
    ≡ l.fn.all.items ++ flat_map (λ room. flat_map (λ it. it.clients.items) room.items) l.fn.rooms.items

abbrev pub decreases-loop-room : goal.decreases-loop-room
decreases-loop-room g l = into_iter_len l.rest
