use Rattle.std.proofs.Common.{ap, sym, subst, refl, ◌∙◌}
use Rattle.ll_path.specs.Path.{Path}
use Rattle.ll_path.specs.Place.{IsPlace}
use Rattle.ll_journal.specs.declared.stage.Turn.TheVariants.{Trunk, First, Second}
use Rattle.ll_journal.specs.Seated.{name_on, next_in}
use Rattle.ll_journal.proofs.Seats.{place_is, name_there}
use Rattle.ll_journal.proofs.seat.Seat.next_name.Goals as goal

pub next_name-requires : goal.next_name-requires
next_name-requires c =
    subst (λ (p : Path). IsPlace p c.self.inside.trunk.ahead.place) (sym c.first_path.ensures)
    (place_is c.self.inside c.in_ok-call.call.now (sym c.in_ok-call.ensures.value) Trunk (sym c.in-Trunk.is
    ∙ c.turn_of.ensures) c.self.invariant.fit refl)

pub returns-in-Trunk : goal.returns-in-Trunk
returns-in-Trunk c =
    c.next_name.ensures ∙ ap (λ (p : Path). name_on p c.self.inside.trunk.ahead) c.first_path.ensures
    ∙ name_there c.self.inside c.in_ok-call.call.now (sym c.in_ok-call.ensures.value) Trunk (sym c.in-Trunk.is
    ∙ c.turn_of.ensures) c.self.invariant.fit refl ∙ ap next_in c.self.view_is

pub next_name-requires-in-First : goal.next_name-requires-in-First
next_name-requires-in-First c =
    subst (λ (p : Path). IsPlace p c.self.inside.first.ahead.place) (sym c.first_path-in-First.ensures)
    (place_is c.self.inside c.in_ok-call.call.now (sym c.in_ok-call.ensures.value) First (sym c.in-First.is
    ∙ c.turn_of.ensures) c.self.invariant.fit refl)

pub returns-in-First : goal.returns-in-First
returns-in-First c =
    c.next_name-in-First.ensures ∙ ap (λ (p : Path). name_on p c.self.inside.first.ahead) c.first_path-in-First.ensures
    ∙ name_there c.self.inside c.in_ok-call.call.now (sym c.in_ok-call.ensures.value) First (sym c.in-First.is
    ∙ c.turn_of.ensures) c.self.invariant.fit refl ∙ ap next_in c.self.view_is

pub next_name-requires-in-Second : goal.next_name-requires-in-Second
next_name-requires-in-Second c =
    subst (λ (p : Path). IsPlace p c.self.inside.second.ahead.place) (sym c.second_path.ensures)
    (place_is c.self.inside c.in_ok-call.call.now (sym c.in_ok-call.ensures.value) Second (sym c.in-Second.is
    ∙ c.turn_of.ensures) c.self.invariant.fit refl)

pub returns-in-Second : goal.returns-in-Second
returns-in-Second c =
    c.next_name-in-Second.ensures ∙ ap (λ (p : Path). name_on p c.self.inside.second.ahead) c.second_path.ensures
    ∙ name_there c.self.inside c.in_ok-call.call.now (sym c.in_ok-call.ensures.value) Second (sym c.in-Second.is
    ∙ c.turn_of.ensures) c.self.invariant.fit refl ∙ ap next_in c.self.view_is
