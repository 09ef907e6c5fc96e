use Rattle.ll_decide.proofs.Carried.{next_mask}
use Rattle.ll_decide.proofs.masks.with_rule.Goals as goal

pub returns : goal.returns
returns c = next_mask c.args.layer.now c.args.inode c.args.mask c.rule.result.0 c.rule.ensures
