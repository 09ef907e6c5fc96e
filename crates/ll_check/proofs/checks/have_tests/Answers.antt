use Rattle.std.proofs.Common.{◌∙◌}
use Rattle.ll_check.proofs.Files.{tests_all}
use Rattle.ll_check.proofs.checks.have_tests.Goals as goal

pub returns : goal.returns
returns c = c.are_tested.ensures ∙ tests_all c.args.files.now
