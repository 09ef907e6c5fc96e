use Rattle.std.proofs.Common.{subst}
use Rattle.ll_client.specs.Closed.{IsClosed}
use Rattle.ll_session.proofs.shared.Shared.close_kept.Goals as goal

pub returns-clause-closed : goal.returns-clause-closed
returns-clause-closed g c nodes slots =
    subst (IsClosed g.N.Shape.rules nodes g.N.Shape.limit c.close.result.entries) c.keep.ensures.same
    (c.close.ensures.closed nodes slots)
