use Rattle.std.proofs.Common.{◌≡◌, ◌++◌, List, map}
use Rattle.std.specs.Vec.Iter.{into_iter_items, into_iter_len}
use Rattle.ll_client.specs.Entries.{Knows}
use Rattle.ll_client.proofs.AllClients.{Settled}
use Rattle.ll_client.proofs.settlement.settle.Given as goal

-- the clients so far
abbrev pub invariant-loop-client : goal.invariant-loop-client
invariant-loop-client g l = (ks : List Knows)
    × (map (λ c. c.rider) l.fn.clients.items ≡ ks ++ map (λ c. c.rider) (into_iter_items l.rest))
    × Settled l.journal l.keeper ks

abbrev pub decreases-loop-client : goal.decreases-loop-client
decreases-loop-client g l = into_iter_len l.rest
