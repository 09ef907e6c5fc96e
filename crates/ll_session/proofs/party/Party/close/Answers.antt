use Rattle.std.proofs.Common.{List, subst}
use Rattle.ll_client.specs.Closed.{IsClosed}
use Rattle.ll_client.specs.Entries.{Knows}
use Rattle.ll_session.proofs.party.Party.close.Goals as goal

pub returns-clause-closed : goal.returns-clause-closed
returns-clause-closed g c = λ nodes slots.
    subst (λ (ks : List Knows). IsClosed g.N.Shape.rules nodes g.N.Shape.limit c.close_all.result.entries ks)
    c.self.view_is (c.close_all.ensures.closed nodes slots)
