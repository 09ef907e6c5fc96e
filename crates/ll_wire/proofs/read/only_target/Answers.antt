use Rattle.std.proofs.Common.{arith}
use Rattle.std.proofs.lemmas.Grind.{common_steps}
use Rattle.ll_wire.proofs.FirstTokens.{one_reads}
use Rattle.ll_wire.proofs.read.only_target.Goals as goal

pub returns : goal.returns
returns c = one_reads _ _ _ (grind (arith, common_steps)) c.target_of.ensures
