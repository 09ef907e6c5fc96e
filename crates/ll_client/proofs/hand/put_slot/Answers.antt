use Rattle.std.proofs.Common.{refl}
use Rattle.ll_client.specs.Entries.{slot_entry}
use Rattle.ll_client.proofs.Accounts.{gave, slot_comes}
use Rattle.ll_client.proofs.hand.put_slot.Goals as goal

pub returns-clause-all : goal.returns-clause-all
returns-clause-all g c =
    gave c.args.journal.now (slot_entry c.args.number c.args.held.now) c.args.keeper.now c.give_out.new.keeper
    (c.args.number, refl, c.requires.there, c.requires.account) c.requires.all c.give_out.ensures.came

pub returns-clause-others : goal.returns-clause-others
returns-clause-others g c = slot_comes c.args.number c.args.client _ c.args.keeper.now c.give_out.new.keeper
    c.give_out.ensures.came
