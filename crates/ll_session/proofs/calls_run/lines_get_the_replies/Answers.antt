use Rattle.ll_session.proofs.CallsRuns.{lines_get_them}
use Rattle.ll_session.proofs.calls_run.lines_get_the_replies.Goals as goal

pub returns : goal.returns
returns c = lines_get_them
