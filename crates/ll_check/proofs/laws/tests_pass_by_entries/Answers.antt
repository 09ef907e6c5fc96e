use Rattle.ll_check.proofs.Witnesses.{tests_pass}
use Rattle.ll_check.proofs.laws.tests_pass_by_entries.Goals as goal

pub returns : goal.returns
returns c = tests_pass
