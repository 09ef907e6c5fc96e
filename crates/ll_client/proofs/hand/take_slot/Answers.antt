use Rattle.ll_client.specs.Entries.{slot_entry}
use Rattle.ll_client.proofs.Accounts.{took, slot_goes, slot_account}
use Rattle.ll_client.proofs.hand.take_slot.Goals as goal

pub returns-clause-all : goal.returns-clause-all
returns-clause-all g c = (took c.args.journal.now (slot_entry c.args.number c.args.held.now) _ c.args.keeper.now
    c.take_back.new.keeper c.requires.all c.requires.pass c.take_back.ensures.shown c.take_back.ensures.gone).all

pub returns-clause-there : goal.returns-clause-there
returns-clause-there g c =
    let b = c.args.journal.now in
    let t = took b (slot_entry c.args.number c.args.held.now) _ c.args.keeper.now c.take_back.new.keeper c.requires.all
    c.requires.pass c.take_back.ensures.shown c.take_back.ensures.gone in
    (slot_account b c.args.number c.args.held.now t.account).there

pub returns-clause-account : goal.returns-clause-account
returns-clause-account g c =
    let b = c.args.journal.now in
    let t = took b (slot_entry c.args.number c.args.held.now) _ c.args.keeper.now c.take_back.new.keeper c.requires.all
    c.requires.pass c.take_back.ensures.shown c.take_back.ensures.gone in
    (slot_account b c.args.number c.args.held.now t.account).is

pub returns-clause-gone : goal.returns-clause-gone
returns-clause-gone g c =
    let b = c.args.journal.now in
    let t = took b (slot_entry c.args.number c.args.held.now) _ c.args.keeper.now c.take_back.new.keeper c.requires.all
    c.requires.pass c.take_back.ensures.shown c.take_back.ensures.gone in
    slot_goes b c.args.number _ _ _ t
