use Rattle.std.proofs.Common.{◌+◌, ◌*◌, refl, arith}
use Rattle.ll_client.specs.Entries.{client_entry, doing_of, part_of}
use Rattle.ll_client.proofs.Accounts.{gave, gave_other}
use Rattle.ll_client.proofs.hand.give_client.Goals as goal

pub returns-clause-all : goal.returns-clause-all
returns-clause-all g c =
    let w = c.args.journal.now.world in
    let n = c.args.number in
    gave c.args.journal.now (client_entry n (part_of w n) c.args.seen (doing_of w n)) c.args.keeper.now
    c.give_out.new.keeper
    (n, refl, c.requires.there, c.requires.few, refl, c.requires.seen, refl) c.requires.all c.give_out.ensures.came

pub returns-clause-others : goal.returns-clause-others
returns-clause-others g c d other =
    let w = c.args.journal.now.world in
    let n = c.args.number in
    gave_other (3 * d + 1) (client_entry n (part_of w n) c.args.seen (doing_of w n)) c.args.keeper.now
    c.give_out.new.keeper c.give_out.ensures.came (λ e. other (omega (arith, e)))

pub returns-clause-wants : goal.returns-clause-wants
returns-clause-wants g c =
    let w = c.args.journal.now.world in
    let n = c.args.number in
    gave_other (3 * n + 2) (client_entry n (part_of w n) c.args.seen (doing_of w n)) c.args.keeper.now
    c.give_out.new.keeper c.give_out.ensures.came (λ e. omega (arith, e))
