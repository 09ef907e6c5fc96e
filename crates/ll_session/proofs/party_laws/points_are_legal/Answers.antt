use Rattle.ll_session.proofs.Edges.{points}
use Rattle.ll_session.proofs.party_laws.points_are_legal.Goals as goal

pub returns : goal.returns
returns c = points
