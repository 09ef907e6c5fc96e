use Rattle.std.specs.Prelude.{option_map, Some}
use Rattle.std.proofs.Common.{ap, sym, ◌∙◌}
use Rattle.ll_rights.specs.Map.{get}
use Rattle.ll_laws.specs.World.{shown}
use Rattle.ll_journal.specs.Book.{Book, Seat}
use Rattle.ll_journal.specs.Kept.{seat_at}
use Rattle.ll_journal.proofs.Starts.{at_place}
use Rattle.ll_journal.proofs.journal.Journal.client.Goals as goal

pub returns-in-None : goal.returns-in-None
returns-in-None c =
    sym (c.self.invariant.seated c.args.client ∙ ap (option_map (λ (seat : Seat). seat.client))
    (ap (λ xs. seat_at xs c.args.client) (sym c.deref.ensures.value) ∙ c.in-None.ensures.none))
    ∙ ap (λ (b : Book). get (shown b.world).clients c.args.client) c.self.view_is

pub returns-in-Some : goal.returns-in-Some
returns-in-Some c =
    let at = at_place c.self.inside.seats.items c.deref.result.now c.args.client c.in-Some.place c.index.result.now
    c.deref.ensures.value c.in-Some.ensures.some c.index.ensures in
    ap (λ x. Some x) c.client.ensures
    ∙ sym (c.self.invariant.seated c.args.client ∙ ap (option_map (λ (seat : Seat). seat.client))
    (ap (seat_at c.self.inside.seats.items) c.in-Some.ensures.some.0 ∙ at))
    ∙ ap (λ (b : Book). get (shown b.world).clients c.args.client) c.self.view_is
