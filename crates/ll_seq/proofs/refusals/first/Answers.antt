use Rattle.std.proofs.Common.{◌∙◌, sym}
use Rattle.ll_seq.proofs.Walked.{after_none}
use Rattle.ll_seq.proofs.refusals.first.Goals as goal

pub returns-in-None : goal.returns-in-None
returns-in-None c ones others one other = after_none ones others c.args.other (sym one ∙ c.in-None.is) other
