use Rattle.std.proofs.Common.{subst, sym}
use Rattle.ll_session.specs.KeptHistory.{AreKept}
use Rattle.ll_session.specs.declared.keeper.Kept.{Kept}
use Rattle.ll_session.proofs.chronicle.Pages.keep.Goals as goal

pub returns-clause-kept : goal.returns-clause-kept
returns-clause-kept g c =
    subst (λ (kept : Kept). AreKept kept c.args.party.now) (sym c.kept.ensures) c.write_up.ensures.kept
