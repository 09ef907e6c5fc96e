use Rattle.ll_session.proofs.Turns.{asks}
use Rattle.ll_session.proofs.party_laws.calls_are_steps.Goals as goal

pub returns : goal.returns
returns c = asks
