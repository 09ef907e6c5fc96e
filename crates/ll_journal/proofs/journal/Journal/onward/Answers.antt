use Rattle.std.proofs.Common.{◌≡◌, ◌<◌, length, ap, sym, subst, ◌∙◌, None, Some}
use Rattle.ll_seq.specs.declared.call.Call.{Call}
use Rattle.ll_journal.specs.Book.{Book, slot_of}
use Rattle.ll_journal.specs.Checks.{TellsNext}
use Rattle.ll_journal.specs.Kept.{seat_at}
use Rattle.ll_journal.specs.Stations.{Names, call_of, station_on}
use Rattle.ll_journal.specs.Stations.{station_in}
use Rattle.ll_journal.specs.Steps.{GoesDown, IsNext}
use Rattle.ll_journal.proofs.KnownNames.{names_told, nothing_ahead, station_told}
use Rattle.ll_journal.proofs.Looks.{nobody_next, next_found, next_none}
use Rattle.ll_journal.proofs.StandingWalks.{is_placed}
use Rattle.ll_journal.proofs.Starts.{at_place}
use Rattle.ll_journal.proofs.journal.Journal.onward.Goals as goal

pub returns-in_default-clause-none : goal.returns-in_default-clause-none
returns-in_default-clause-none c down =
    nobody_next c.self.inside c.args.client c.args.slot
    (ap (λ xs. seat_at xs c.args.client) (sym c.deref.ensures.value) ∙ c.in_default.ensures.none)
    (subst (λ (b : Book). GoesDown b c.args.client c.args.slot) (sym c.self.view_is) down)

pub returns-in_default-name_ahead-clause-none : goal.returns-in_default-name_ahead-clause-none
returns-in_default-name_ahead-clause-none c down =
    let at = at_place c.self.inside.seats.items c.deref.result.now c.args.client c.in-Some.place
    c.index-seat.result.now c.deref.ensures.value c.in-Some.ensures.some c.index-seat.ensures in
    nothing_ahead c.self.inside c.self.invariant c.args.client c.in-Some.place c.index-seat.result.now at
    c.in-Some.ensures.some.0 c.args.slot
    (subst (TellsNext c.index-seat.result.now) c.in_default-name_ahead.is c.name_ahead.ensures)
    (subst (λ (b : Book). GoesDown b c.args.client c.args.slot) (sym c.self.view_is) down)

pub returns-in_default-directory_below-clause-none : goal.returns-in_default-directory_below-clause-none
returns-in_default-directory_below-clause-none c down =
    let at = at_place c.self.inside.seats.items c.deref.result.now c.args.client c.in-Some.place
    c.index-seat.result.now c.deref.ensures.value c.in-Some.ensures.some c.index-seat.ensures in
    let lent = subst (λ (b : Book). c.args.here.now ≡ slot_of b c.args.slot) (sym c.self.view_is) c.requires in
    next_none c.self.inside c.self.invariant c.args.client c.in-Some.place c.index-seat.result.now at
    c.in-Some.ensures.some.0 c.args.slot c.args.here.now lent
    (sym c.directory_below.ensures ∙ c.in_default-directory_below.is)
    (subst (λ (b : Book). GoesDown b c.args.client c.args.slot) (sym c.self.view_is) down)

pub returns-in_default-slot-clause-none : goal.returns-in_default-slot-clause-none
returns-in_default-slot-clause-none c down =
    let at = at_place c.self.inside.seats.items c.deref.result.now c.args.client c.in-Some.place
    c.index-seat.result.now c.deref.ensures.value c.in-Some.ensures.some c.index-seat.ensures in
    let lent = subst (λ (b : Book). c.args.here.now ≡ slot_of b c.args.slot) (sym c.self.view_is) c.requires in
    (next_found c.self.inside c.self.invariant c.args.client c.in-Some.place c.index-seat.result.now at
    c.in-Some.ensures.some.0 c.args.slot c.args.here.now lent
    c.in-Some-directory_below.inode (sym c.directory_below.ensures ∙ c.in-Some-directory_below.is)
    None (sym c.in_default-slot.is ∙ c.slot.ensures)).1
    (subst (λ (b : Book). GoesDown b c.args.client c.args.slot) (sym c.self.view_is) down)

pub returns-clause-next : goal.returns-clause-next
returns-clause-next c =
    let at = at_place c.self.inside.seats.items c.deref.result.now c.args.client c.in-Some.place
    c.index-seat.result.now c.deref.ensures.value c.in-Some.ensures.some c.index-seat.ensures in
    let lent = subst (λ (b : Book). c.args.here.now ≡ slot_of b c.args.slot) (sym c.self.view_is) c.requires in
    subst (λ (b : Book). IsNext b c.args.client c.args.slot c.in-Some-slot.next) c.self.view_is
    (next_found c.self.inside c.self.invariant c.args.client c.in-Some.place c.index-seat.result.now at
    c.in-Some.ensures.some.0 c.args.slot c.args.here.now lent
    c.in-Some-directory_below.inode (sym c.directory_below.ensures ∙ c.in-Some-directory_below.is)
    (Some c.in-Some-slot.next) (sym c.in-Some-slot.is ∙ c.slot.ensures)).0

pub returns-clause-within : goal.returns-clause-within
returns-clause-within c =
    subst (λ (b : Book). c.in-Some-slot.next < length b.inodes) c.self.view_is
    (is_placed c.self.inside c.self.invariant c.in-Some-directory_below.inode (Some c.in-Some-slot.next)
    (sym c.in-Some-slot.is ∙ c.slot.ensures)).within

pub returns-clause-names : goal.returns-clause-names
returns-clause-names c =
    let at = at_place c.self.inside.seats.items c.deref.result.now c.args.client c.in-Some.place
    c.index-seat.result.now c.deref.ensures.value c.in-Some.ensures.some c.index-seat.ensures in
    subst (λ (b : Book). (call : Call) → call_of b.world c.args.client ≡ Some call
    → Names call c.args.here.now c.in-Some-name_ahead.name c.in-Some-directory_below.inode) c.self.view_is
    (names_told c.self.inside c.self.invariant c.args.client c.in-Some.place c.index-seat.result.now at
    c.in-Some.ensures.some.0 c.args.here.now c.in-Some-name_ahead.name c.in-Some-directory_below.inode
    (sym c.directory_below.ensures ∙ c.in-Some-directory_below.is)
    (subst (TellsNext c.index-seat.result.now) c.in-Some-name_ahead.is c.name_ahead.ensures))

pub returns-clause-station : goal.returns-clause-station
returns-clause-station c =
    let at = at_place c.self.inside.seats.items c.deref.result.now c.args.client c.in-Some.place
    c.index-seat.result.now c.deref.ensures.value c.in-Some.ensures.some c.index-seat.ensures in
    subst (λ (b : Book). station_in b.world c.args.client ≡ station_on c.in-Some-name_ahead.name.turn) c.self.view_is
    (station_told c.self.inside c.self.invariant c.args.client c.in-Some.place c.index-seat.result.now at
    c.in-Some.ensures.some.0 c.args.here.now c.in-Some-name_ahead.name c.in-Some-directory_below.inode
    (sym c.directory_below.ensures ∙ c.in-Some-directory_below.is)
    (subst (TellsNext c.index-seat.result.now) c.in-Some-name_ahead.is c.name_ahead.ensures))
