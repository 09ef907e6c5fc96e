use Rattle.std.proofs.Common.{◌≡◌, ◌++◌}
use Rattle.std.specs.Prelude.{flat_map}
use Rattle.std.specs.Vec.Iter.{into_iter_items, into_iter_len}
use Rattle.ll_session.proofs.all_clients.add_room.Given as goal

abbrev pub invariant-loop-served : goal.invariant-loop-served
invariant-loop-served g l = l.all.items ++ flat_map (λ it. it.clients.items) (into_iter_items l.rest)
    ≡ l.fn.all.items ++ flat_map (λ it. it.clients.items) l.fn.room.items

abbrev pub decreases-loop-served : goal.decreases-loop-served
decreases-loop-served g l = into_iter_len l.rest
