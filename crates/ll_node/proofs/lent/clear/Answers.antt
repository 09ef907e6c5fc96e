use Rattle.ll_node.specs.Lent.{emptied_in}
use Rattle.ll_node.proofs.EachSlot.{one_more, all_changed}
use Rattle.ll_node.proofs.lent.clear.Goals as goal

pub loop-held-preserved : goal.loop-held-preserved
loop-held-preserved c = one_more (emptied_in c.args.inode) c.loop-held.held-index c.args.lent.now c.loop-held.lent
    c.clear.new.self c.held-item.result c.loop-held.invariant c.loop-held-test.true c.clear.ensures

pub returns : goal.returns
returns c = all_changed (emptied_in c.args.inode) c.loop-held.held-index c.args.lent.now c.loop-held.lent
    c.loop-held.invariant c.loop-held-test.false
