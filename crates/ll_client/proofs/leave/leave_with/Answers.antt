use Rattle.std.proofs.Common.{◌≡◌, true, length, sym, subst, ◌∙◌}
use Rattle.ll_journal.specs.Book.{Book}
use Rattle.ll_client.specs.Entries.{AreAccounts, doing_of, starved_in}
use Rattle.ll_client.specs.Hands.{starved_if}
use Rattle.ll_client.proofs.Starvation.{GoOn, left_starves}
use Rattle.ll_client.proofs.leave.leave_with.Goals as goal

pub note_want-requires : goal.note_want-requires
note_want-requires g c κs within = (within, (c.requires.1.1.0, (all, (c.requires.1.1.1.1.0, are))))
  where
    all : AreAccounts g.before c.args.keeper.now
    all = subst (λ (b : Book). AreAccounts b c.args.keeper.now) (sym c.requires.1.0) c.requires.1.1.1.0

    are : c.starves-ran_out.result ≡ true
        → GoOn g.before.world c.args.exit.client (starved_in c.args.wants.now)
        (doing_of g.before.world c.args.exit.client)
    are ran =
        subst (λ (b : Book). GoOn b.world c.args.exit.client (starved_in c.args.wants.now)
        (doing_of b.world c.args.exit.client)) (sym c.requires.1.0)
        (left_starves c.args.exit.leaving c.args.journal.now c.leave_lent-left.new.journal c.args.exit.client
        (starved_in c.args.wants.now) c.leave_lent-left.result c.leave_lent-left.ensures.left.leaves
        (sym c.starves-ran_out.ensures ∙ ran))

pub returns-clause-all : goal.returns-clause-all
returns-clause-all g c =
    subst (λ (b : Book). AreAccounts b c.note_want.new.keeper) c.requires.1.0 c.note_want.ensures.all

pub returns-clause-starved : goal.returns-clause-starved
returns-clause-starved g c =
    c.note_want.ensures.starved
    ∙ (λ i. starved_if (c.starves-ran_out.ensures i) (starved_in c.args.wants.now)
    (length ((c.requires.1.0 i).world.history)) (doing_of (c.requires.1.0 i).world c.args.exit.client))
