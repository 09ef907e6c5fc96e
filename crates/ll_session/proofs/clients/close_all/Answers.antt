use Rattle.std.proofs.Common.{List, map, subst}
use Rattle.ll_client.specs.Closed.{IsClosed}
use Rattle.ll_client.specs.Entries.{Knows}
use Rattle.ll_session.proofs.clients.close_all.Goals as goal

pub returns-in-Ok-clause-closed : goal.returns-in-Ok-clause-closed
returns-in-Ok-clause-closed g c = λ nodes slots.
    subst (λ (ks : List Knows). IsClosed g.N.Shape.rules nodes g.N.Shape.limit c.in-Ok.history.entries ks)
    (λ i. map (λ it. it.rider) (c.loop.invariant i)) (c.in-Ok.ensures.closed nodes slots)
