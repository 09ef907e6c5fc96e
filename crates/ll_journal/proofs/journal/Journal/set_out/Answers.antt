use Rattle.std.proofs.Common.{◌≡◌, [], false, refl, ap, sym, subst, ◌∙◌}
use Rattle.std.specs.Option.{option_map_or}
use Rattle.ll_journal.specs.Book.{Book, Seat}
use Rattle.ll_journal.specs.Kept.{seat_at, world_of}
use Rattle.ll_laws.specs.World.{Begun, NotNow, advance}
use Rattle.ll_laws.specs.declared.step.Step.TheVariants.{Begin}
use Rattle.ll_journal.proofs.Starts.{at_place, may, not_here, turned_down, idle_before, world_begun, sets_out}
use Rattle.ll_journal.proofs.Starts.{slots_kept, kept_by, over_begun, over_spares, sound_after, rest_kept}
use Rattle.ll_journal.proofs.Starts.{changed_world}
use Rattle.ll_journal.proofs.Departures.{gate_held, walks_so}
use Rattle.ll_journal.proofs.journal.Journal.set_out.Goals as goal

pub returns-in_default-clause-not_now : goal.returns-in_default-clause-not_now
returns-in_default-clause-not_now c =
    subst (λ (b : Book). advance b.world (Begin c.args.client c.args.call) ≡ (NotNow, b.world)) c.self.view_is
    (not_here (world_of c.self.inside) c.self.inside.seats.items c.self.invariant.seated refl c.args.client c.args.call
    (ap (λ o. option_map_or (λ (seat : Seat). may seat c.args.call) o false)
    (ap (λ xs. seat_at xs c.args.client) (sym c.deref.ensures.value) ∙ c.in_default.ensures.none)))

pub returns-then-not-may_set_out-clause-not_now : goal.returns-then-not-may_set_out-clause-not_now
returns-then-not-may_set_out-clause-not_now c =
    let at = at_place c.self.inside.seats.items c.deref.result.now c.args.client c.in-Some.place c.index.result.now
    c.deref.ensures.value c.in-Some.ensures.some c.index.ensures in
    subst (λ (b : Book). advance b.world (Begin c.args.client c.args.call) ≡ (NotNow, b.world)) c.self.view_is
    (turned_down c.self.inside c.self.invariant c.args.client c.in-Some.place c.args.call c.index.result.now at
    c.in-Some.ensures.some.0 c.may_set_out.result
    (walks_so c.self.inside c.self.invariant c.args.client c.args.call c.in-Some.place c.index.result.now at
    c.in-Some.ensures.some.0 c.may_set_out.result c.may_set_out.ensures _ c.self.view_is c.requires)
    c.if-not-may_set_out.true)

pub returns-then-not-is_free-clause-not_now : goal.returns-then-not-is_free-clause-not_now
returns-then-not-is_free-clause-not_now c =
    subst (λ (b : Book). advance b.world (Begin c.args.client c.args.call) ≡ (NotNow, b.world)) c.self.view_is
    (gate_held (world_of c.self.inside) c.args.client c.args.call c.is_free.result c.is_free.ensures
    c.if-not-is_free.true)

pub invariant_of-self : goal.invariant_of-self
invariant_of-self c =
    let first = at_place c.self.inside.seats.items c.deref.result.now c.args.client c.in-Some.place c.index.result.now
    c.deref.ensures.value c.in-Some.ensures.some c.index.ensures in
    let at = at_place c.self.inside.seats.items c.deref.result.now c.args.client c.in-Some.place
    c.index_mut-seat.result.now c.deref.ensures.value c.in-Some.ensures.some c.index_mut-seat.ensures.value in
    kept_by c.self.inside _ c.in-Some.place c.index_mut-seat.result.now c.begin.new.self c.next_gate-self-inside.result
    c.self.invariant at
    (ap (λ (s : Seat). s.client) c.begin.ensures) (ap (λ (s : Seat). s.spare) c.begin.ensures)
    (sound_after c.self.inside (changed_world c.self.inside c.in-Some.place c.begin.new.self
    c.next_gate-self-inside.result) (Begin c.args.client c.args.call) Begun c.self.invariant
    (sets_out c.self.inside c.self.invariant c.args.client c.in-Some.place c.args.call c.index.result.now first
    c.in-Some.ensures.some.0
    c.may_set_out.result c.is_free.result
    (walks_so c.self.inside c.self.invariant c.args.client c.args.call c.in-Some.place c.index.result.now first
    c.in-Some.ensures.some.0 c.may_set_out.result c.may_set_out.ensures _ c.self.view_is c.requires)
    c.if-not-may_set_out.false c.is_free.ensures c.if-not-is_free.false
    ∙ ap (λ w. (Begun, w)) (sym (world_begun c.self.inside c.self.invariant c.args.client c.in-Some.place c.args.call
    c.index_mut-seat.result.now at c.in-Some.ensures.some.0 c.begin.new.self c.next_gate-self-inside.result
    c.begin.ensures c.next_gate-self-inside.ensures))))
    refl refl refl refl refl refl

pub returns-clause-begun : goal.returns-clause-begun
returns-clause-begun c =
    let at = at_place c.self.inside.seats.items c.deref.result.now c.args.client c.in-Some.place
    c.index_mut-seat.result.now c.deref.ensures.value c.in-Some.ensures.some c.index_mut-seat.ensures.value in
    let first = at_place c.self.inside.seats.items c.deref.result.now c.args.client c.in-Some.place c.index.result.now
    c.deref.ensures.value c.in-Some.ensures.some c.index.ensures in
    over_begun _ _ _ c.args.client c.args.call c.self.view_is
    (sets_out c.self.inside c.self.invariant c.args.client c.in-Some.place c.args.call c.index.result.now first
    c.in-Some.ensures.some.0
    c.may_set_out.result c.is_free.result
    (walks_so c.self.inside c.self.invariant c.args.client c.args.call c.in-Some.place c.index.result.now first
    c.in-Some.ensures.some.0 c.may_set_out.result c.may_set_out.ensures _ c.self.view_is c.requires)
    c.if-not-may_set_out.false c.is_free.ensures c.if-not-is_free.false
    ∙ ap (λ w. (Begun, w)) (sym (world_begun c.self.inside c.self.invariant c.args.client c.in-Some.place c.args.call
    c.index_mut-seat.result.now at c.in-Some.ensures.some.0 c.begin.new.self c.next_gate-self-inside.result
    c.begin.ensures c.next_gate-self-inside.ensures)))

pub returns-clause-spares : goal.returns-clause-spares
returns-clause-spares c =
    let at = at_place c.self.inside.seats.items c.deref.result.now c.args.client c.in-Some.place
    c.index_mut-seat.result.now c.deref.ensures.value c.in-Some.ensures.some c.index_mut-seat.ensures.value in
    let first = at_place c.self.inside.seats.items c.deref.result.now c.args.client c.in-Some.place c.index.result.now
    c.deref.ensures.value c.in-Some.ensures.some c.index.ensures in
    over_spares _ _ _ [] c.self.view_is
    (slots_kept _ _ c.args.client c.args.call
    (world_begun c.self.inside c.self.invariant c.args.client c.in-Some.place c.args.call c.index_mut-seat.result.now at
    c.in-Some.ensures.some.0 c.begin.new.self c.next_gate-self-inside.result c.begin.ensures
    c.next_gate-self-inside.ensures)
    refl (idle_before c.self.inside c.self.invariant c.args.client c.in-Some.place c.args.call c.index.result.now first
    c.in-Some.ensures.some.0 c.may_set_out.result
    (walks_so c.self.inside c.self.invariant c.args.client c.args.call c.in-Some.place c.index.result.now first
    c.in-Some.ensures.some.0 c.may_set_out.result c.may_set_out.ensures _ c.self.view_is c.requires)
    c.if-not-may_set_out.false))

pub returns-clause-rest : goal.returns-clause-rest
returns-clause-rest c =
    let at = at_place c.self.inside.seats.items c.deref.result.now c.args.client c.in-Some.place
    c.index_mut-seat.result.now c.deref.ensures.value c.in-Some.ensures.some c.index_mut-seat.ensures.value in
    rest_kept c.self.inside c.in-Some.place c.index_mut-seat.result.now c.begin.new.self at
    (ap (λ (s : Seat). s.spare) c.begin.ensures) _ c.args.self.now c.self.view_is
