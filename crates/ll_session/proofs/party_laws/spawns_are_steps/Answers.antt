use Rattle.ll_session.proofs.Turns.{spawns}
use Rattle.ll_session.proofs.party_laws.spawns_are_steps.Goals as goal

pub returns : goal.returns
returns c = spawns
