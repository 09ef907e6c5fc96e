use Rattle.std.proofs.Common.{◌≡◌, true, length, Some, sym, subst, ◌∙◌}
use Rattle.ll_seq.specs.declared.call.Call.{Call}
use Rattle.ll_journal.specs.Book.{Book}
use Rattle.ll_client.specs.Entries.{AreAccounts, starved_in}
use Rattle.ll_client.specs.Hands.{starved_if}
use Rattle.ll_client.proofs.Starvation.{GoOn, start_starves}
use Rattle.ll_client.proofs.start.start_call.Goals as goal

pub note_want-requires : goal.note_want-requires
note_want-requires g c κs within = (within, (c.requires.1.1.1.0, (all, (c.requires.1.1.1.1.1, are))))
  where
    all : AreAccounts g.asked.0 c.args.keeper.now
    all = subst (λ (b : Book). AreAccounts b c.args.keeper.now) (sym c.requires.1.0) c.requires.1.1.1.1.0

    are : c.starves_at_start-ran_out.result ≡ true
        → GoOn g.asked.0.world c.args.number (starved_in c.args.wants.now) (Some g.asked.1)
    are ran =
        subst (λ (p : Book × Call). GoOn p.0.world c.args.number (starved_in c.args.wants.now) (Some p.1))
        (λ i. (sym c.requires.1.0 i, sym c.requires.1.1.0 i))
        (start_starves c.args.journal.now c.start-start.new.self c.args.number c.args.call
        (starved_in c.args.wants.now) c.start-start.result c.start-start.ensures.starts
        (sym c.starves_at_start-ran_out.ensures ∙ ran))

pub returns-clause-all : goal.returns-clause-all
returns-clause-all g c =
    subst (λ (b : Book). AreAccounts b c.note_want.new.keeper) c.requires.1.0 c.note_want.ensures.all

pub returns-clause-starved : goal.returns-clause-starved
returns-clause-starved g c =
    c.note_want.ensures.starved
    ∙ (λ i. starved_if (c.starves_at_start-ran_out.ensures i) (starved_in c.args.wants.now)
    (length ((c.requires.1.0 i).world.history)) (Some (c.requires.1.1.0 i)))
