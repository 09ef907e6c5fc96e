use Rattle.std.proofs.Common.{map, ap, refl, sym, subst, ◌∙◌}
use Rattle.ll_laws.specs.World.{shown}
use Rattle.ll_journal.specs.Book.{Book, slot_of}
use Rattle.ll_journal.specs.Kept.{spares_of, walks_from, world_of}
use Rattle.ll_journal.specs.CommitCheck.{check_of}
use Rattle.ll_journal.specs.Stopped.{IsStop}
use Rattle.ll_journal.proofs.EndedWalks.{place_within}
use Rattle.ll_journal.proofs.Starts.{at_place}
use Rattle.ll_journal.proofs.StopMeans.{stop_means}
use Rattle.ll_journal.proofs.journal.Journal.check_end.Goals as goal

pub returns : goal.returns
returns c =
    let at = at_place c.self.inside.seats.items c.self.inside.seats.items c.args.client c.args.place c.index.result.now
    refl
    (c.requires.numbered, place_within c.self.inside c.args.self.now c.self.view_is c.args.place c.requires.place)
    c.index.ensures in
    subst (λ (b : Book). IsStop b c.args.client c.args.slots.now
    (check_of c.check_commit.result c.check_commit.new.into)) c.self.view_is
    (stop_means c.self.inside c.self.invariant c.args.client c.args.place c.index.result.now at c.requires.numbered
    c.args.slots.now c.args.lent.now
    (c.requires.lent ∙ ap (λ (b : Book). map (slot_of b) c.args.slots.now) (sym c.self.view_is))
    (check_of c.check_commit.result c.check_commit.new.into)
    (c.check_commit.ensures (world_of c.self.inside) (shown (world_of c.self.inside))
    (spares_of c.self.inside.seats.items)
    (ap (walks_from 1) (sym c.deref.ensures.value)) c.self.invariant.table))
