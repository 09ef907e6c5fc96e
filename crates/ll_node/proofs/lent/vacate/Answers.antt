use Rattle.ll_node.specs.Lent.{vacated}
use Rattle.ll_node.proofs.EachSlot.{one_more, all_changed}
use Rattle.ll_node.proofs.lent.vacate.Goals as goal

pub loop-held-preserved : goal.loop-held-preserved
loop-held-preserved c = one_more (vacated c.args.inode) c.loop-held.held-index c.args.lent.now c.loop-held.lent
    c.vacate.new.self c.held-item.result c.loop-held.invariant c.loop-held-test.true c.vacate.ensures

pub returns : goal.returns
returns c = all_changed (vacated c.args.inode) c.loop-held.held-index c.args.lent.now c.loop-held.lent
    c.loop-held.invariant c.loop-held-test.false
