use Rattle.ll_session.proofs.Turns.{looks}
use Rattle.ll_session.proofs.party_laws.looks_change_nothing.Goals as goal

pub returns : goal.returns
returns c = looks
