use Rattle.std.proofs.Common.{refl, []}
use Rattle.ll_client.specs.Entries.{wants_entry}
use Rattle.ll_client.proofs.Accounts.{gave, gave_other, only_wants}
use Rattle.ll_client.proofs.want.give_wants.Goals as goal

pub returns-clause-all : goal.returns-clause-all
returns-clause-all g c =
    gave c.args.journal.now (wants_entry c.args.number []) c.args.keeper.now c.give_out.new.keeper
    (c.args.number, refl, c.requires.there, c.requires.few, tt) c.requires.all c.give_out.ensures.came

pub returns-clause-only : goal.returns-clause-only
returns-clause-only g c = only_wants c.args.number c.args.keeper.now c.give_out.new.keeper
    (λ j other. gave_other j (wants_entry c.args.number []) c.args.keeper.now c.give_out.new.keeper
    c.give_out.ensures.came other)
