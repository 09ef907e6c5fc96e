use Rattle.ll_learn.proofs.DraftReach.{draft_is_least}
use Rattle.ll_learn.proofs.laws.draft_is_least.Goals as goal

pub returns : goal.returns
returns c = draft_is_least
