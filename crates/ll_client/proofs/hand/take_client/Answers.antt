use Rattle.ll_client.specs.Entries.{client_entry, part_in, doing_in}
use Rattle.ll_client.proofs.Accounts.{took, client_goes, client_account}
use Rattle.ll_client.proofs.hand.take_client.Goals as goal

pub returns-clause-all : goal.returns-clause-all
returns-clause-all g c =
    let b = c.args.journal.now in
    let t = took b (client_entry c.args.number (part_in c.args.pass.now) c.args.seen (doing_in c.args.pass.now)) _
    c.args.keeper.now c.take_back.new.keeper c.requires.all c.requires.pass c.take_back.ensures.shown
    c.take_back.ensures.gone in
    t.all

pub returns-clause-there : goal.returns-clause-there
returns-clause-there g c =
    let b = c.args.journal.now in
    let t = took b (client_entry c.args.number (part_in c.args.pass.now) c.args.seen (doing_in c.args.pass.now)) _
    c.args.keeper.now c.take_back.new.keeper c.requires.all c.requires.pass c.take_back.ensures.shown
    c.take_back.ensures.gone in
    (client_account b c.args.number (part_in c.args.pass.now) c.args.seen (doing_in c.args.pass.now) t.account).there

pub returns-clause-few : goal.returns-clause-few
returns-clause-few g c =
    let b = c.args.journal.now in
    let t = took b (client_entry c.args.number (part_in c.args.pass.now) c.args.seen (doing_in c.args.pass.now)) _
    c.args.keeper.now c.take_back.new.keeper c.requires.all c.requires.pass c.take_back.ensures.shown
    c.take_back.ensures.gone in
    (client_account b c.args.number (part_in c.args.pass.now) c.args.seen (doing_in c.args.pass.now) t.account).few

pub returns-clause-part : goal.returns-clause-part
returns-clause-part g c =
    let b = c.args.journal.now in
    let t = took b (client_entry c.args.number (part_in c.args.pass.now) c.args.seen (doing_in c.args.pass.now)) _
    c.args.keeper.now c.take_back.new.keeper c.requires.all c.requires.pass c.take_back.ensures.shown
    c.take_back.ensures.gone in
    (client_account b c.args.number (part_in c.args.pass.now) c.args.seen (doing_in c.args.pass.now) t.account).part_is

pub returns-clause-seen : goal.returns-clause-seen
returns-clause-seen g c =
    let b = c.args.journal.now in
    let t = took b (client_entry c.args.number (part_in c.args.pass.now) c.args.seen (doing_in c.args.pass.now)) _
    c.args.keeper.now c.take_back.new.keeper c.requires.all c.requires.pass c.take_back.ensures.shown
    c.take_back.ensures.gone in
    (client_account b c.args.number (part_in c.args.pass.now) c.args.seen (doing_in c.args.pass.now) t.account).low

pub returns-clause-doing : goal.returns-clause-doing
returns-clause-doing g c =
    let b = c.args.journal.now in
    let t = took b (client_entry c.args.number (part_in c.args.pass.now) c.args.seen (doing_in c.args.pass.now)) _
    c.args.keeper.now c.take_back.new.keeper c.requires.all c.requires.pass c.take_back.ensures.shown
    c.take_back.ensures.gone in
    (client_account b c.args.number (part_in c.args.pass.now) c.args.seen (doing_in c.args.pass.now) t.account).doing_is

pub returns-clause-gone : goal.returns-clause-gone
returns-clause-gone g c =
    let b = c.args.journal.now in
    let t = took b (client_entry c.args.number (part_in c.args.pass.now) c.args.seen (doing_in c.args.pass.now)) _
    c.args.keeper.now c.take_back.new.keeper c.requires.all c.requires.pass c.take_back.ensures.shown
    c.take_back.ensures.gone in
    client_goes b c.args.number _ _ _ t
