use Rattle.std.proofs.Common.{◌∙◌}
use Rattle.ll_check.proofs.Taught.{own_any}
use Rattle.ll_check.proofs.learned_files.have_own.Goals as goal

pub returns : goal.returns
returns c = c.are_own.ensures ∙ own_any c.args.files.now
