use Rattle.std.proofs.Common.{rules}
use Rattle.ll_embed.proofs.text_run.run_through.Goals as goal

pub returns-in-Ok-clause-transcript : goal.returns-in-Ok-clause-transcript
returns-in-Ok-clause-transcript g c = let ran = rw c.new-ends.ensures at c.in-Ok.ensures.transcript in search rules
