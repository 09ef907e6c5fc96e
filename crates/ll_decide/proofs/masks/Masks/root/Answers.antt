use Rattle.std.proofs.Common.{◌∙◌}
use Rattle.ll_decide.proofs.Carried.{length-masks}
use Rattle.ll_decide.proofs.masks.Masks.root.Goals as goal

pub down-requires : goal.down-requires
down-requires c = length-masks c.start-masks.result c.args.domain.now _ c.start-masks.ensures

pub returns-clause-len : goal.returns-clause-len
returns-clause-len c = c.down.ensures.len ∙ length-masks c.start-masks.result c.args.domain.now _ c.start-masks.ensures
