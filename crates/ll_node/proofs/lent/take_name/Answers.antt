use Rattle.ll_node.specs.Lent.{unnamed_in}
use Rattle.ll_node.proofs.EachSlot.{one_more, all_changed}
use Rattle.ll_node.proofs.lent.take_name.Goals as goal

pub loop-held-preserved : goal.loop-held-preserved
loop-held-preserved c = one_more (unnamed_in c.args.directory c.args.name.now) c.loop-held.held-index c.args.lent.now
    c.loop-held.lent c.take_name.new.self c.held-item.result c.loop-held.invariant c.loop-held-test.true
    c.take_name.ensures

pub returns : goal.returns
returns c = all_changed (unnamed_in c.args.directory c.args.name.now) c.loop-held.held-index c.args.lent.now
    c.loop-held.lent c.loop-held.invariant c.loop-held-test.false
