use Rattle.std.proofs.Common.{subst, sym}
use Rattle.ll_session.specs.KeptHistory.{AreKept}
use Rattle.ll_session.proofs.open_session.OpenSession.keep.Goals as goal

pub returns-clause-kept : goal.returns-clause-kept
returns-clause-kept g c = subst (AreKept c.keep-self.result) (sym c.keep-self.ensures.same) c.keep-self.ensures.kept
