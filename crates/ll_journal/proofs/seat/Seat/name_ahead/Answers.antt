use Rattle.std.proofs.Common.{ap, refl, sym, subst, ◌∙◌}
use Rattle.ll_journal.specs.declared.stage.Turn.TheVariants.{No, Trunk, First, Second}
use Rattle.ll_journal.specs.Book.{Seat}
use Rattle.ll_journal.specs.Checks.{TellsNext}
use Rattle.ll_journal.specs.Seated.{next_in, seat_of}
use Rattle.ll_journal.proofs.KnownNames.{tells_next, under_way}
use Rattle.ll_journal.proofs.Seats.{name_there, next_is}
use Rattle.ll_journal.proofs.seat.Seat.name_ahead.Goals as goal

pub returns-in-No : goal.returns-in-No
returns-in-No c =
    let call = under_way c.self.inside.call c.if-is_none.ensures in
    sym (ap next_in c.self.view_is)
    ∙ next_is c.self.inside call.0 call.1 No (sym c.in-No.is ∙ c.turn_of.ensures) c.self.invariant.fit

pub returns-in-Trunk : goal.returns-in-Trunk
returns-in-Trunk c =
    let call = under_way c.self.inside.call c.if-is_none.ensures in
    let found = sym c.in-Trunk.is ∙ c.turn_of.ensures in
    subst (λ (s : Seat). TellsNext s c.next_of.result) c.self.view_is
    (subst (TellsNext (seat_of c.self.inside)) (sym c.next_of.ensures)
    (tells_next c.self.inside call.0 call.1 c.self.invariant.fit Trunk (λ e. absurd (cc e)) found
    (name_there c.self.inside call.0 call.1 Trunk found c.self.invariant.fit refl)))

pub returns-in-First : goal.returns-in-First
returns-in-First c =
    let call = under_way c.self.inside.call c.if-is_none.ensures in
    let found = sym c.in-First.is ∙ c.turn_of.ensures in
    subst (λ (s : Seat). TellsNext s c.next_of-in-First.result) c.self.view_is
    (subst (TellsNext (seat_of c.self.inside)) (sym c.next_of-in-First.ensures)
    (tells_next c.self.inside call.0 call.1 c.self.invariant.fit First (λ e. absurd (cc e)) found
    (name_there c.self.inside call.0 call.1 First found c.self.invariant.fit refl)))

pub returns-in-Second : goal.returns-in-Second
returns-in-Second c =
    let call = under_way c.self.inside.call c.if-is_none.ensures in
    let found = sym c.in-Second.is ∙ c.turn_of.ensures in
    subst (λ (s : Seat). TellsNext s c.next_of-in-Second.result) c.self.view_is
    (subst (TellsNext (seat_of c.self.inside)) (sym c.next_of-in-Second.ensures)
    (tells_next c.self.inside call.0 call.1 c.self.invariant.fit Second (λ e. absurd (cc e)) found
    (name_there c.self.inside call.0 call.1 Second found c.self.invariant.fit refl)))
