use Rattle.ll_session.proofs.Turns.{joins}
use Rattle.ll_session.proofs.party_laws.connects_are_steps.Goals as goal

pub returns : goal.returns
returns c = joins
