use Rattle.std.proofs.Common.{subst, sym, ◌∙◌}
use Rattle.ll_session.specs.KeptHistory.{AreKept}
use Rattle.ll_session.proofs.visits.turn_away.Goals as goal

pub tell_reply-ended-requires-clause-kept : goal.tell_reply-ended-requires-clause-kept
tell_reply-ended-requires-clause-kept g c =
    subst (AreKept c.keep-kept.result) (sym c.keep-kept.ensures.same) c.keep-kept.ensures.kept

pub returns-clause-clients : goal.returns-clause-clients
returns-clause-clients g c = c.into_clients.ensures ∙ c.keep-kept.ensures.same
