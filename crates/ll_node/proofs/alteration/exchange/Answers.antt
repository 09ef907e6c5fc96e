use Rattle.ll_node.proofs.MovedSlots.{has_new, has_old, exchanged_slots}
use Rattle.ll_node.proofs.alteration.exchange.Goals as goal

pub replace_name-requires : goal.replace_name-requires
replace_name-requires c = has_new c.args.old.now c.args.new.now c.args.first c.args.second c.requires.1

pub replace_name-requires-2 : goal.replace_name-requires-2
replace_name-requires-2 c =
    has_old c.args.old.now c.args.new.now c.args.first c.args.second c.requires.1 c.replace_name.new.lent
    c.replace_name.ensures

pub returns : goal.returns
returns c any scene given fits covers =
    exchanged_slots given c.args.old.now c.args.new.now c.args.first c.args.second c.replace_name.new.lent
    c.replace_name-2.new.lent fits covers
    c.replace_name.ensures c.replace_name-2.ensures
