use Rattle.ll_check.proofs.Judges.{has_replies}
use Rattle.ll_check.proofs.section_check.check_file.Goals as goal

pub report-requires-clause-replies : goal.report-requires-clause-replies
report-requires-clause-replies g c = has_replies c.args.setup c.args.tests.now _ _ c.in_ok-made.ensures.made
