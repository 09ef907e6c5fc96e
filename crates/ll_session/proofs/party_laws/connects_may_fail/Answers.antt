use Rattle.ll_session.proofs.Edges.{may_fail}
use Rattle.ll_session.proofs.party_laws.connects_may_fail.Goals as goal

pub returns : goal.returns
returns c = may_fail
