use Rattle.ll_steps.proofs.TradedSlots.{taken, put_there, left_as_is}
use Rattle.ll_steps.proofs.slots.+trade.Goals as goal

pub returns-clause-lent : goal.returns-clause-lent
returns-clause-lent t c =
    taken c.args.slots.now c.in-Some.number.now c.in-Some.numbers.now c.args.numbers.now c.swap.new.x
    c.index-slots-number.result c.swap.new.y c.trade.new.lent
    c.in-Some.ensures.cases.0 c.requires.distinct c.requires.there c.swap.ensures.y_after c.trade.ensures.lent

pub returns-clause-put : goal.returns-clause-put
returns-clause-put t c =
    put_there c.args.slots.now c.trade.new.slots c.in-Some.number.now c.in-Some.numbers.now c.args.numbers.now
    c.swap.new.x c.in-Some-split_first_mut.held.now
    c.in-Some-split_first_mut.lent.now c.args.lent.now c.in-Some.ensures.cases.0
    c.in-Some-split_first_mut.ensures.cases.0 c.requires.distinct c.requires.there
    c.swap.ensures.x_after c.trade.ensures.put c.trade.ensures.others

pub returns-clause-others : goal.returns-clause-others
returns-clause-others t c =
    left_as_is c.args.slots.now c.trade.new.slots c.in-Some.number.now c.in-Some.numbers.now c.args.numbers.now
    c.swap.new.x
    c.in-Some.ensures.cases.0 c.trade.ensures.others
