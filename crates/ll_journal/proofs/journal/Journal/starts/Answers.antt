use Rattle.std.specs.Option.{option_map_or}
use Rattle.std.specs.Prelude.{Option}
use Rattle.std.proofs.Common.{ap, sym, ◌∙◌}
use Rattle.ll_rights.specs.Map.{get}
use Rattle.ll_laws.specs.Walk.{Walk}
use Rattle.ll_journal.specs.Book.{Book}
use Rattle.ll_journal.specs.Kept.{seat_at}
use Rattle.ll_journal.proofs.Starts.{at_place}
use Rattle.ll_journal.proofs.RootDescents.{no_walk, walk_here}
use Rattle.ll_journal.proofs.journal.Journal.starts.Goals as goal

pub returns-in-None : goal.returns-in-None
returns-in-None c =
    sym (ap (λ (o : Option Walk). option_map_or (λ (walk : Walk). walk.starts) o 0) (no_walk c.self.inside c.args.client
    (ap (λ xs. seat_at xs c.args.client) (sym c.deref.ensures.value) ∙ c.in-None.ensures.none)))
    ∙ ap (λ (b : Book). option_map_or (λ (walk : Walk). walk.starts) (get b.world.walks c.args.client) 0)
    c.self.view_is

pub returns-in-Some : goal.returns-in-Some
returns-in-Some c =
    let at = at_place c.self.inside.seats.items c.deref.result.now c.args.client c.in-Some.place c.index.result.now
    c.deref.ensures.value c.in-Some.ensures.some c.index.ensures in
    c.starts.ensures
    ∙ sym (ap (λ (o : Option Walk). option_map_or (λ (walk : Walk). walk.starts) o 0) (walk_here c.self.inside
    c.self.invariant c.args.client c.in-Some.place c.index.result.now at c.in-Some.ensures.some.0))
    ∙ ap (λ (b : Book). option_map_or (λ (walk : Walk). walk.starts) (get b.world.walks c.args.client) 0)
    c.self.view_is
