use Rattle.std.proofs.Common.{subst, sym}
use Rattle.ll_client.specs.Closed.{IsClosed}
use Rattle.ll_wire.proofs.Advance.{on_err}
use Rattle.ll_session.specs.KeptHistory.{AreKept}
use Rattle.ll_session.proofs.run.tell_refusal.Goals as goal

pub tell_reply-ended-requires-clause-kept : goal.tell_reply-ended-requires-clause-kept
tell_reply-ended-requires-clause-kept g c =
    subst (AreKept c.keep-kept.result) (sym c.keep-kept.ensures.same) c.keep-kept.ensures.kept

pub returns-in_err-ended-clause-over : goal.returns-in_err-ended-clause-over
returns-in_err-ended-clause-over g c = on_err c.from_residual.result
    (λ room slots. (
      c.close-history.result.entries,
      subst (IsClosed g.N.Shape.rules room g.N.Shape.limit c.close-history.result.entries) c.keep-kept.ensures.same
          (c.close-history.ensures.closed room slots),
    ))

pub returns-clause-closed : goal.returns-clause-closed
returns-clause-closed g c room slots =
    subst (IsClosed g.N.Shape.rules room g.N.Shape.limit c.close-history.result.entries) c.keep-kept.ensures.same
    (c.close-history.ensures.closed room slots)
