use Rattle.std.specs.Prelude.{option_map}
use Rattle.std.proofs.Common.{ap, sym, ◌∙◌}
use Rattle.ll_laws.specs.Walk.{Walk}
use Rattle.ll_journal.specs.Book.{Book}
use Rattle.ll_journal.specs.Kept.{seat_at}
use Rattle.ll_journal.specs.Stations.{position_at, position_in}
use Rattle.ll_journal.proofs.Starts.{at_place}
use Rattle.ll_journal.proofs.RootDescents.{no_walk, walk_here}
use Rattle.ll_journal.proofs.journal.Journal.position.Goals as goal

pub returns-in-None : goal.returns-in-None
returns-in-None c =
    sym (ap (option_map (λ (walk : Walk). position_at walk.at)) (no_walk c.self.inside c.args.client
    (ap (λ xs. seat_at xs c.args.client) (sym c.deref.ensures.value) ∙ c.in-None.ensures.none)))
    ∙ ap (λ (b : Book). position_in b.world c.args.client) c.self.view_is

pub returns-in-Some : goal.returns-in-Some
returns-in-Some c =
    let at = at_place c.self.inside.seats.items c.deref.result.now c.args.client c.in-Some.place c.index.result.now
    c.deref.ensures.value c.in-Some.ensures.some c.index.ensures in
    c.position.ensures
    ∙ sym (ap (option_map (λ (walk : Walk). position_at walk.at)) (walk_here c.self.inside c.self.invariant
    c.args.client c.in-Some.place c.index.result.now at c.in-Some.ensures.some.0))
    ∙ ap (λ (b : Book). position_in b.world c.args.client) c.self.view_is
