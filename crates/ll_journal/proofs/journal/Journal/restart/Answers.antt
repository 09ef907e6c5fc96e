use Rattle.std.proofs.Common.{◌≡◌, map, ap, sym, subst, ◌∙◌, refl, Some}
use Rattle.std.specs.Prelude.{option_and_then, unwrap_or, slice_get}
use Rattle.ll_laws.specs.World.{Restarted, NotNow, advance}
use Rattle.ll_laws.specs.declared.step.Step.TheVariants.{Restart}
use Rattle.ll_laws.specs.World as world
use Rattle.ll_journal.specs.Book.{Book, Seat, slot_of}
use Rattle.ll_journal.specs.Kept.{book_of, seat_at, world_of}
use Rattle.ll_journal.specs.Checks.{check_restart}
use Rattle.ll_journal.specs.Steps.{IsAstrayAt}
use Rattle.ll_journal.proofs.Starts.{at_place, changed_world, kept_by, over_spares, rest_kept}
use Rattle.ll_journal.proofs.RootDescents.{no_walk, one_seat}
use Rattle.ll_journal.proofs.Restarts.{StartsAgain, again_not_now, again_astray, again_goes, few_starts, again_does}
use Rattle.ll_journal.proofs.Restarts.{again_sound, again_lent, again_spares}
use Rattle.ll_journal.proofs.journal.Journal.restart.Goals as goal

pub returns-in_default-clause-does : goal.returns-in_default-clause-does
returns-in_default-clause-does c =
    subst (λ (b : Book). advance b.world (Restart c.args.client) ≡ (NotNow, b.world)) c.self.view_is
    (ap (λ o. unwrap_or (option_and_then (world.restart (world_of c.self.inside) c.args.client) o)
    (NotNow, world_of c.self.inside))
    (no_walk c.self.inside c.args.client (ap (λ xs. seat_at xs c.args.client) (sym c.deref.ensures.value)
    ∙ c.in_default.ensures.none)))

pub returns-in-NotNow-clause-does : goal.returns-in-NotNow-clause-does
returns-in-NotNow-clause-does c =
    let first = at_place c.self.inside.seats.items c.deref.result.now c.args.client c.in-Some.place c.index.result.now
    c.deref.ensures.value c.in-Some.ensures.some c.index.ensures in
    let told = c.requires ∙ ap (λ (b : Book). map (slot_of b) c.args.slots.now) (sym c.self.view_is) in
    subst (λ (b : Book). advance b.world (Restart c.args.client) ≡ (NotNow, b.world)) c.self.view_is
    (again_not_now c.self.inside c.self.invariant c.args.client c.in-Some.place c.index.result.now first
    c.in-Some.ensures.some.0 c.args.slots.now c.args.lent.now told (sym c.check_restart.ensures ∙ c.in-NotNow.is))

pub returns-in-Astray-clause-astray : goal.returns-in-Astray-clause-astray
returns-in-Astray-clause-astray c e =
    let first = at_place c.self.inside.seats.items c.deref.result.now c.args.client c.in-Some.place c.index.result.now
    c.deref.ensures.value c.in-Some.ensures.some c.index.ensures in
    let told = c.requires ∙ ap (λ (b : Book). map (slot_of b) c.args.slots.now) (sym c.self.view_is) in
    subst (λ (b : Book). IsAstrayAt b c.args.client c.args.slots.now) c.self.view_is
    (again_astray c.self.inside c.self.invariant c.args.client c.in-Some.place c.index.result.now first
    c.in-Some.ensures.some.0 c.args.slots.now c.args.lent.now told (sym c.check_restart.ensures ∙ c.in-Astray.is))

pub restart-requires : goal.restart-requires
restart-requires c =
    let first = at_place c.self.inside.seats.items c.deref.result.now c.args.client c.in-Some.place c.index.result.now
    c.deref.ensures.value c.in-Some.ensures.some c.index.ensures in
    let at = at_place c.self.inside.seats.items c.deref.result.now c.args.client c.in-Some.place
    c.index_mut-seat.result.now c.deref.ensures.value c.in-Some.ensures.some c.index_mut-seat.ensures.value in
    let told = c.requires ∙ ap (λ (b : Book). map (slot_of b) c.args.slots.now) (sym c.self.view_is) in
    let go = again_goes c.self.inside c.self.invariant c.args.client c.in-Some.place c.index_mut-seat.result.now at
    c.in-Some.ensures.some.0 c.args.slots.now c.args.lent.now told
    (ap (check_restart c.args.lent.now) (sym (one_seat c.self.inside c.in-Some.place _ _ first at))
    ∙ sym c.check_restart.ensures ∙ c.in-Go.is) in
    few_starts c.self.inside c.self.invariant c.args.client c.in-Some.place c.index_mut-seat.result.now at
    c.in-Some.ensures.some.0 c.args.slots.now c.args.lent.now told go

-- the seat before, what is lent, and that the walk starts again
at_start : (c : goal.After-lent-1)
    → slice_get c.self.inside.seats.items c.in-Some.place ≡ Some c.index_mut-seat.result.now
at_start c = at_place c.self.inside.seats.items c.deref.result.now c.args.client c.in-Some.place
    c.index_mut-seat.result.now c.deref.ensures.value c.in-Some.ensures.some c.index_mut-seat.ensures.value

told_then : (c : goal.After-lent-1) → c.args.lent.now ≡ map (slot_of (book_of c.self.inside)) c.args.slots.now
told_then c = c.requires ∙ ap (λ (b : Book). map (slot_of b) c.args.slots.now) (sym c.self.view_is)

starts : (c : goal.After-lent-1) → StartsAgain c.self.inside c.args.client c.index_mut-seat.result.now c.args.slots.now
starts c =
    let first = at_place c.self.inside.seats.items c.deref.result.now c.args.client c.in-Some.place c.index.result.now
    c.deref.ensures.value c.in-Some.ensures.some c.index.ensures in
    again_goes c.self.inside c.self.invariant c.args.client c.in-Some.place c.index_mut-seat.result.now (at_start c)
    c.in-Some.ensures.some.0 c.args.slots.now c.args.lent.now (told_then c)
    (ap (check_restart c.args.lent.now) (sym (one_seat c.self.inside c.in-Some.place _ _ first (at_start c)))
    ∙ sym c.check_restart.ensures ∙ c.in-Go.is)

pub invariant_of-self : goal.invariant_of-self
invariant_of-self c =
    kept_by c.self.inside _ c.in-Some.place c.index_mut-seat.result.now c.restart.new.self c.self.inside.gate
    c.self.invariant (at_start c)
    (ap (λ (s : Seat). s.client) c.restart.ensures) (ap (λ (s : Seat). s.spare) c.restart.ensures)
    (again_sound c.self.inside c.self.invariant c.args.client c.in-Some.place c.index_mut-seat.result.now (at_start c)
    c.in-Some.ensures.some.0 c.args.slots.now c.args.lent.now (told_then c) (starts c) c.restart.new.self
    c.restart.ensures)
    refl refl refl refl refl refl

pub returns-clause-does : goal.returns-clause-does
returns-clause-does c =
    subst (λ (b : Book). advance b.world (Restart c.args.client)
    ≡ (Restarted, changed_world c.self.inside c.in-Some.place c.restart.new.self c.self.inside.gate)) c.self.view_is
    (again_does c.self.inside c.self.invariant c.args.client c.in-Some.place c.index_mut-seat.result.now (at_start c)
    c.in-Some.ensures.some.0 c.args.slots.now c.args.lent.now (told_then c) (starts c) c.restart.new.self
    c.restart.ensures)

pub returns-clause-lent : goal.returns-clause-lent
returns-clause-lent c =
    c.unmark.ensures
    ∙ again_lent c.self.inside c.self.invariant c.args.client c.in-Some.place c.index_mut-seat.result.now (at_start c)
    c.in-Some.ensures.some.0 c.args.slots.now c.args.lent.now (told_then c) (starts c) c.restart.new.self
    c.restart.ensures
    (record (book_of c.self.inside)
    { world = changed_world c.self.inside c.in-Some.place c.restart.new.self c.self.inside.gate }) refl refl

pub returns-clause-spares : goal.returns-clause-spares
returns-clause-spares c =
    over_spares _ _ _ c.args.slots.now c.self.view_is
    (again_spares c.self.inside c.self.invariant c.args.client c.in-Some.place c.index_mut-seat.result.now (at_start c)
    c.in-Some.ensures.some.0 c.args.slots.now c.args.lent.now (told_then c) (starts c) c.restart.new.self
    c.restart.ensures _ refl refl)

pub returns-clause-rest : goal.returns-clause-rest
returns-clause-rest c =
    rest_kept c.self.inside c.in-Some.place c.index_mut-seat.result.now c.restart.new.self (at_start c)
    (ap (λ (s : Seat). s.spare) c.restart.ensures) _ c.args.self.now c.self.view_is
