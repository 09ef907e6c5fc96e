use Rattle.ll_client.specs.Entries.{starved_in, wants_entry}
use Rattle.ll_client.proofs.Accounts.{wants_taken}
use Rattle.ll_client.proofs.want.take_pass.Goals as goal

pub returns-clause-was : goal.returns-clause-was
returns-clause-was g c =
    (wants_taken (wants_entry c.args.number (starved_in c.args.wants.now)) _ c.args.keeper.now c.take_back.new.keeper
    c.requires.wants c.take_back.ensures.shown c.take_back.ensures.gone).0

pub returns-clause-gone : goal.returns-clause-gone
returns-clause-gone g c =
    (wants_taken (wants_entry c.args.number (starved_in c.args.wants.now)) _ c.args.keeper.now c.take_back.new.keeper
    c.requires.wants c.take_back.ensures.shown c.take_back.ensures.gone).1

pub returns-clause-free : goal.returns-clause-free
returns-clause-free g c =
    (wants_taken (wants_entry c.args.number (starved_in c.args.wants.now)) _ c.args.keeper.now c.take_back.new.keeper
    c.requires.wants c.take_back.ensures.shown c.take_back.ensures.gone).2
