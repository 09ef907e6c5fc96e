use Rattle.std.proofs.Common.{refl, Some}
use Rattle.ll_client.specs.Entries.{starved_in, wants_entry}
use Rattle.ll_client.proofs.Accounts.{only_wants, took, wants_account}
use Rattle.ll_client.proofs.want.take_wants.Goals as goal

pub returns-clause-all : goal.returns-clause-all
returns-clause-all g c =
    let e = wants_entry c.args.number (starved_in c.args.wants.now) in
    (took c.args.journal.now e (Some e) c.args.keeper.now c.take_pass.new.keeper c.requires.all refl
    c.take_pass.ensures.was c.take_pass.ensures.gone).all

pub returns-clause-starved : goal.returns-clause-starved
returns-clause-starved g c =
    let b = c.args.journal.now in
    let e = wants_entry c.args.number (starved_in c.args.wants.now) in
    (wants_account b c.args.number (starved_in c.args.wants.now)
    (took b e (Some e) c.args.keeper.now c.take_pass.new.keeper c.requires.all refl
    c.take_pass.ensures.was c.take_pass.ensures.gone).account).are

pub returns-clause-only : goal.returns-clause-only
returns-clause-only g c =
    let e = wants_entry c.args.number (starved_in c.args.wants.now) in
    only_wants c.args.number c.args.keeper.now c.take_pass.new.keeper
    (took c.args.journal.now e (Some e) c.args.keeper.now c.take_pass.new.keeper c.requires.all refl
    c.take_pass.ensures.was c.take_pass.ensures.gone).others
