use Rattle.std.proofs.Common.{◌*◌, refl, arith}
use Rattle.ll_client.specs.Entries.{slot_entry}
use Rattle.ll_client.proofs.Accounts.{gave, gave_other}
use Rattle.ll_client.proofs.opened.new_slot.Goals as goal

pub returns-clause-all : goal.returns-clause-all
returns-clause-all g c =
    gave c.args.journal.now (slot_entry c.args.number c.args.held) c.args.keeper.now c.give_out-pass.new.keeper
    (c.args.number, refl, c.requires.there, c.requires.account) c.requires.all c.give_out-pass.ensures.came

pub returns-clause-others : goal.returns-clause-others
returns-clause-others g c k above =
    gave_other (3 * k) (slot_entry c.args.number c.args.held) c.args.keeper.now c.give_out-pass.new.keeper
    c.give_out-pass.ensures.came (λ e. omega (arith, e, above))
