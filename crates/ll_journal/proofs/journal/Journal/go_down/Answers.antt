use Rattle.std.proofs.Common.{◌≡◌, ◌<◌, [], ◌∷◌, length, ap, refl, subst, rules}
use Rattle.ll_laws.specs.World.{Stands, advance}
use Rattle.ll_laws.specs.declared.step.Step.TheVariants.{Descend}
use Rattle.ll_journal.specs.Book.{Book, Seat}
use Rattle.ll_journal.specs.Kept.{book_of}
use Rattle.ll_journal.proofs.EndedWalks.{place_within}
use Rattle.ll_journal.proofs.Starts.{at_place, changed_world, kept_by, over_spares, rest_kept}
use Rattle.ll_journal.proofs.Descents.{has_next, down_does, down_sound, down_from, down_to, down_spares}
use Rattle.ll_journal.proofs.SoughtNext.{lent_here, next_goes, next_here}
use Rattle.ll_journal.proofs.journal.Journal.go_down.Goals as goal

pub index_mut-seat-requires : goal.index_mut-seat-requires
index_mut-seat-requires c =
    let within : c.args.place < length c.self.inside.seats.items =
    place_within c.self.inside c.args.self.now c.self.view_is c.args.place c.requires.place in
    search rules

pub descend-requires : goal.descend-requires
descend-requires c =
    let at = at_place c.self.inside.seats.items c.self.inside.seats.items c.args.client c.args.place
    c.index_mut-seat.result.now refl
    (c.requires.numbered, place_within c.self.inside c.args.self.now c.self.view_is c.args.place c.requires.place)
    c.index_mut-seat.ensures.value in
    let from = lent_here (book_of c.self.inside) c.args.self.now c.args.from_slot c.args.from.now c.self.view_is
    c.requires.from in
    let to = lent_here (book_of c.self.inside) c.args.self.now c.args.to_slot c.args.to.now c.self.view_is
    c.requires.to in
    let go = next_goes c.self.inside c.self.invariant c.args.client c.args.place c.index_mut-seat.result.now at
    c.requires.numbered c.args.from_slot c.args.to_slot c.args.from.now c.args.to.now from to
    (next_here (book_of c.self.inside) c.args.self.now c.args.client c.args.from_slot c.args.to_slot c.self.view_is
    c.requires.next) c.requires.free in
    has_next c.self.inside c.self.invariant c.args.client c.args.place c.index_mut-seat.result.now at
    c.requires.numbered c.args.from_slot c.args.to_slot c.args.from.now c.args.to.now from to go

pub invariant_of-self : goal.invariant_of-self
invariant_of-self c =
    let at = at_place c.self.inside.seats.items c.self.inside.seats.items c.args.client c.args.place
    c.index_mut-seat.result.now refl
    (c.requires.numbered, place_within c.self.inside c.args.self.now c.self.view_is c.args.place c.requires.place)
    c.index_mut-seat.ensures.value in
    let from = lent_here (book_of c.self.inside) c.args.self.now c.args.from_slot c.args.from.now c.self.view_is
    c.requires.from in
    let to = lent_here (book_of c.self.inside) c.args.self.now c.args.to_slot c.args.to.now c.self.view_is
    c.requires.to in
    let go = next_goes c.self.inside c.self.invariant c.args.client c.args.place c.index_mut-seat.result.now at
    c.requires.numbered c.args.from_slot c.args.to_slot c.args.from.now c.args.to.now from to
    (next_here (book_of c.self.inside) c.args.self.now c.args.client c.args.from_slot c.args.to_slot c.self.view_is
    c.requires.next) c.requires.free in
    kept_by c.self.inside _ c.args.place c.index_mut-seat.result.now c.descend.new.self c.self.inside.gate
    c.self.invariant at
    (ap (λ (s : Seat). s.client) c.descend.ensures) (ap (λ (s : Seat). s.spare) c.descend.ensures)
    (down_sound c.self.inside c.self.invariant c.args.client c.args.place c.index_mut-seat.result.now at
    c.requires.numbered c.args.from_slot c.args.to_slot c.args.from.now c.args.to.now from to go
    c.descend.new.self c.descend.ensures)
    refl refl refl refl refl refl

pub returns-clause-does : goal.returns-clause-does
returns-clause-does c =
    let at = at_place c.self.inside.seats.items c.self.inside.seats.items c.args.client c.args.place
    c.index_mut-seat.result.now refl
    (c.requires.numbered, place_within c.self.inside c.args.self.now c.self.view_is c.args.place c.requires.place)
    c.index_mut-seat.ensures.value in
    let from = lent_here (book_of c.self.inside) c.args.self.now c.args.from_slot c.args.from.now c.self.view_is
    c.requires.from in
    let to = lent_here (book_of c.self.inside) c.args.self.now c.args.to_slot c.args.to.now c.self.view_is
    c.requires.to in
    let go = next_goes c.self.inside c.self.invariant c.args.client c.args.place c.index_mut-seat.result.now at
    c.requires.numbered c.args.from_slot c.args.to_slot c.args.from.now c.args.to.now from to
    (next_here (book_of c.self.inside) c.args.self.now c.args.client c.args.from_slot c.args.to_slot c.self.view_is
    c.requires.next) c.requires.free in
    subst (λ (b : Book). advance b.world (Descend c.args.client)
    ≡ (
      Stands c.args.to.now.inode,
      changed_world c.self.inside c.args.place c.descend.new.self c.self.inside.gate,
    )) c.self.view_is
    (down_does c.self.inside c.self.invariant c.args.client c.args.place c.index_mut-seat.result.now at
    c.requires.numbered c.args.from_slot c.args.to_slot c.args.from.now c.args.to.now from to go
    c.descend.new.self c.descend.ensures)

pub returns-clause-from : goal.returns-clause-from
returns-clause-from c =
    let at = at_place c.self.inside.seats.items c.self.inside.seats.items c.args.client c.args.place
    c.index_mut-seat.result.now refl
    (c.requires.numbered, place_within c.self.inside c.args.self.now c.self.view_is c.args.place c.requires.place)
    c.index_mut-seat.ensures.value in
    let from = lent_here (book_of c.self.inside) c.args.self.now c.args.from_slot c.args.from.now c.self.view_is
    c.requires.from in
    let to = lent_here (book_of c.self.inside) c.args.self.now c.args.to_slot c.args.to.now c.self.view_is
    c.requires.to in
    let go = next_goes c.self.inside c.self.invariant c.args.client c.args.place c.index_mut-seat.result.now at
    c.requires.numbered c.args.from_slot c.args.to_slot c.args.from.now c.args.to.now from to
    (next_here (book_of c.self.inside) c.args.self.now c.args.client c.args.from_slot c.args.to_slot c.self.view_is
    c.requires.next) c.requires.free in
    down_from c.self.inside c.self.invariant c.args.client c.args.place c.index_mut-seat.result.now at
    c.requires.numbered c.args.from_slot c.args.to_slot c.args.from.now c.args.to.now from to go
    c.descend.new.self c.descend.ensures c.mark_in.result c.set_mark.new.self c.mark_in.ensures c.set_mark.ensures

pub returns-clause-to : goal.returns-clause-to
returns-clause-to c =
    let at = at_place c.self.inside.seats.items c.self.inside.seats.items c.args.client c.args.place
    c.index_mut-seat.result.now refl
    (c.requires.numbered, place_within c.self.inside c.args.self.now c.self.view_is c.args.place c.requires.place)
    c.index_mut-seat.ensures.value in
    let from = lent_here (book_of c.self.inside) c.args.self.now c.args.from_slot c.args.from.now c.self.view_is
    c.requires.from in
    let to = lent_here (book_of c.self.inside) c.args.self.now c.args.to_slot c.args.to.now c.self.view_is
    c.requires.to in
    let go = next_goes c.self.inside c.self.invariant c.args.client c.args.place c.index_mut-seat.result.now at
    c.requires.numbered c.args.from_slot c.args.to_slot c.args.from.now c.args.to.now from to
    (next_here (book_of c.self.inside) c.args.self.now c.args.client c.args.from_slot c.args.to_slot c.self.view_is
    c.requires.next) c.requires.free in
    down_to c.self.inside c.self.invariant c.args.client c.args.place c.index_mut-seat.result.now at
    c.requires.numbered c.args.from_slot c.args.to_slot c.args.from.now c.args.to.now from to go
    c.descend.new.self c.descend.ensures c.set_mark-2.new.self c.set_mark-2.ensures

pub returns-clause-spares : goal.returns-clause-spares
returns-clause-spares c =
    let at = at_place c.self.inside.seats.items c.self.inside.seats.items c.args.client c.args.place
    c.index_mut-seat.result.now refl
    (c.requires.numbered, place_within c.self.inside c.args.self.now c.self.view_is c.args.place c.requires.place)
    c.index_mut-seat.ensures.value in
    let from = lent_here (book_of c.self.inside) c.args.self.now c.args.from_slot c.args.from.now c.self.view_is
    c.requires.from in
    let to = lent_here (book_of c.self.inside) c.args.self.now c.args.to_slot c.args.to.now c.self.view_is
    c.requires.to in
    let go = next_goes c.self.inside c.self.invariant c.args.client c.args.place c.index_mut-seat.result.now at
    c.requires.numbered c.args.from_slot c.args.to_slot c.args.from.now c.args.to.now from to
    (next_here (book_of c.self.inside) c.args.self.now c.args.client c.args.from_slot c.args.to_slot c.self.view_is
    c.requires.next) c.requires.free in
    over_spares _ _ _ (c.args.from_slot ∷ c.args.to_slot ∷ []) c.self.view_is
    (down_spares c.self.inside c.self.invariant c.args.client c.args.place c.index_mut-seat.result.now at
    c.requires.numbered c.args.from_slot c.args.to_slot c.args.from.now c.args.to.now from to go
    c.descend.new.self c.descend.ensures _ refl refl)

pub returns-clause-rest : goal.returns-clause-rest
returns-clause-rest c =
    let at = at_place c.self.inside.seats.items c.self.inside.seats.items c.args.client c.args.place
    c.index_mut-seat.result.now refl
    (c.requires.numbered, place_within c.self.inside c.args.self.now c.self.view_is c.args.place c.requires.place)
    c.index_mut-seat.ensures.value in
    rest_kept c.self.inside c.args.place c.index_mut-seat.result.now c.descend.new.self at
    (ap (λ (s : Seat). s.spare) c.descend.ensures) _ c.args.self.now c.self.view_is
