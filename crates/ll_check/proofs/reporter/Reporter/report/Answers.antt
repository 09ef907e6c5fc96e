use Rattle.ll_check.proofs.Judges.{replies_there}
use Rattle.ll_check.proofs.reporter.Reporter.report.Goals as goal

pub judge-requires : goal.judge-requires
judge-requires c = replies_there _ c.args.made.now _ _ c.in-Answered.is c.as_slice.ensures.value c.requires.replies
