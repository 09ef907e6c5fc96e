use Rattle.ll_node.specs.Lent.{unmarked}
use Rattle.ll_node.proofs.EachSlot.{one_more, all_changed}
use Rattle.ll_node.proofs.lent.unmark.Goals as goal

pub loop-held-preserved : goal.loop-held-preserved
loop-held-preserved c = one_more (unmarked c.args.client) c.loop-held.held-index c.args.lent.now c.loop-held.lent
    c.unmark.new.self c.held-item.result c.loop-held.invariant c.loop-held-test.true c.unmark.ensures

pub returns : goal.returns
returns c = all_changed (unmarked c.args.client) c.loop-held.held-index c.args.lent.now c.loop-held.lent
    c.loop-held.invariant c.loop-held-test.false
