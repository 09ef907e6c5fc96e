use Rattle.std.proofs.Common.{ap, sym, ◌∙◌}
use Rattle.ll_journal.specs.Book.{Book}
use Rattle.ll_journal.specs.Kept.{seat_at}
use Rattle.ll_journal.specs.Stations.{station_in, station_of}
use Rattle.ll_journal.proofs.Starts.{at_place}
use Rattle.ll_journal.proofs.RootDescents.{no_walk, walk_here}
use Rattle.ll_journal.proofs.journal.Journal.station.Goals as goal

pub returns-in-None : goal.returns-in-None
returns-in-None c =
    sym (ap station_of (no_walk c.self.inside c.args.client
    (ap (λ xs. seat_at xs c.args.client) (sym c.deref.ensures.value) ∙ c.in-None.ensures.none)))
    ∙ ap (λ (b : Book). station_in b.world c.args.client) c.self.view_is

pub returns-in-Some : goal.returns-in-Some
returns-in-Some c =
    let at = at_place c.self.inside.seats.items c.deref.result.now c.args.client c.in-Some.place c.index.result.now
    c.deref.ensures.value c.in-Some.ensures.some c.index.ensures in
    c.station.ensures
    ∙ sym (ap station_of (walk_here c.self.inside c.self.invariant c.args.client c.in-Some.place c.index.result.now at
    c.in-Some.ensures.some.0))
    ∙ ap (λ (b : Book). station_in b.world c.args.client) c.self.view_is
