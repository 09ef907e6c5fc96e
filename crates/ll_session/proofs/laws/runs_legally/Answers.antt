use Rattle.ll_session.proofs.Legal.{legally}
use Rattle.ll_session.proofs.laws.runs_legally.Goals as goal

pub returns : goal.returns
returns c = legally
