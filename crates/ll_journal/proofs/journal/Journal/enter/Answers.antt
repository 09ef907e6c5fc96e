use Rattle.std.proofs.Common.{◌≡◌, ap, sym, subst, ◌∙◌, refl}
use Rattle.std.specs.Prelude.{option_and_then, unwrap_or, cond, ◌==◌, false, Some, ◌∷◌, []}
use Rattle.std.specs.Option.{option_map_or}
use Rattle.ll_laws.specs.Walk.{Walk}
use Rattle.ll_journal.specs.Checks.{check_enter}
use Rattle.ll_laws.specs.World.{Stands, NotNow, advance}
use Rattle.ll_laws.specs.declared.step.Step.TheVariants.{Descend}
use Rattle.ll_laws.specs.World as world
use Rattle.ll_node.specs.Slot.{Slot}
use Rattle.ll_journal.specs.Book.{Book, Seat, slot_of}
use Rattle.ll_journal.specs.Kept.{seat_at, world_of}
use Rattle.ll_journal.specs.Steps.{IsAstrayAtTop}
use Rattle.ll_journal.proofs.Starts.{at_place, changed_world, kept_by, over_spares, rest_kept}
use Rattle.ll_journal.proofs.RootDescents.{no_walk, one_seat, root_not_now, root_astray, root_goes, root_does}
use Rattle.ll_journal.proofs.RootDescents.{root_sound, root_lent, root_spares}
use Rattle.ll_journal.proofs.journal.Journal.enter.Goals as goal

pub returns-in_default-clause-does : goal.returns-in_default-clause-does
returns-in_default-clause-does c =
    subst (λ (b : Book). advance b.world (Descend c.args.client) ≡ (NotNow, b.world)) c.self.view_is
    (ap (λ o. unwrap_or (option_and_then (world.descend (world_of c.self.inside) c.args.client) o)
    (NotNow, world_of c.self.inside))
    (no_walk c.self.inside c.args.client (ap (λ xs. seat_at xs c.args.client) (sym c.deref.ensures.value)
    ∙ c.in_default.ensures.none)))

pub returns-in-NotNow-clause-does : goal.returns-in-NotNow-clause-does
returns-in-NotNow-clause-does c =
    let first = at_place c.self.inside.seats.items c.deref.result.now c.args.client c.in-Some.place c.index.result.now
    c.deref.ensures.value c.in-Some.ensures.some c.index.ensures in
    subst (λ (b : Book). advance b.world (Descend c.args.client) ≡ (NotNow, b.world)) c.self.view_is
    (root_not_now c.self.inside c.self.invariant c.args.client c.in-Some.place c.index.result.now first
    c.in-Some.ensures.some.0 c.args.slot c.args.root.now
    (subst (λ (b : Book). c.args.root.now ≡ slot_of b c.args.slot) (sym c.self.view_is) c.requires)
    (sym c.check_enter.ensures ∙ c.in-NotNow.is))

pub returns-in-Astray-clause-astray : goal.returns-in-Astray-clause-astray
returns-in-Astray-clause-astray c e =
    let first = at_place c.self.inside.seats.items c.deref.result.now c.args.client c.in-Some.place c.index.result.now
    c.deref.ensures.value c.in-Some.ensures.some c.index.ensures in
    subst (λ (b : Book). IsAstrayAtTop b c.args.client c.args.slot) c.self.view_is
    (root_astray c.self.inside c.self.invariant c.args.client c.in-Some.place c.index.result.now first
    c.in-Some.ensures.some.0 c.args.slot c.args.root.now
    (subst (λ (b : Book). c.args.root.now ≡ slot_of b c.args.slot) (sym c.self.view_is) c.requires)
    (sym c.check_enter.ensures ∙ c.in-Astray.is))

pub invariant_of-self : goal.invariant_of-self
invariant_of-self c =
    let first = at_place c.self.inside.seats.items c.deref.result.now c.args.client c.in-Some.place c.index.result.now
    c.deref.ensures.value c.in-Some.ensures.some c.index.ensures in
    let then = at_place c.self.inside.seats.items c.deref.result.now c.args.client c.in-Some.place c.index-2.result.now
    c.deref.ensures.value c.in-Some.ensures.some c.index-2.ensures in
    let at = at_place c.self.inside.seats.items c.deref.result.now c.args.client c.in-Some.place
    c.index_mut-seat.result.now c.deref.ensures.value c.in-Some.ensures.some c.index_mut-seat.ensures.value in
    let lent = subst (λ (b : Book). c.args.root.now ≡ slot_of b c.args.slot) (sym c.self.view_is) c.requires in
    let go = root_goes c.self.inside c.self.invariant c.args.client c.in-Some.place c.index_mut-seat.result.now at
    c.in-Some.ensures.some.0 c.args.slot c.args.root.now lent
    (ap (λ (s : Seat). check_enter s c.self.inside.gate c.args.client c.args.root.now)
    (sym (one_seat c.self.inside c.in-Some.place _ _ first at)) ∙ sym c.check_enter.ensures ∙ c.in-Go.is) in
    let gate = c.gate_at_root-self-inside.ensures
    ∙ ap (λ (s : Seat). cond (option_map_or (λ (walk : Walk). walk.starts == 4) s.walk false) (Some c.args.client)
    c.self.inside.gate) (one_seat c.self.inside c.in-Some.place _ _ then at) in
    kept_by c.self.inside _ c.in-Some.place c.index_mut-seat.result.now c.enter.new.self
    c.gate_at_root-self-inside.result c.self.invariant at
    (ap (λ (s : Seat). s.client) c.enter.ensures) (ap (λ (s : Seat). s.spare) c.enter.ensures)
    (root_sound c.self.inside c.self.invariant c.args.client c.in-Some.place c.index_mut-seat.result.now at
    c.in-Some.ensures.some.0 c.args.slot c.args.root.now lent go c.enter.new.self c.gate_at_root-self-inside.result
    c.enter.ensures gate)
    refl refl refl refl refl refl

pub returns-clause-does : goal.returns-clause-does
returns-clause-does c =
    let first = at_place c.self.inside.seats.items c.deref.result.now c.args.client c.in-Some.place c.index.result.now
    c.deref.ensures.value c.in-Some.ensures.some c.index.ensures in
    let then = at_place c.self.inside.seats.items c.deref.result.now c.args.client c.in-Some.place c.index-2.result.now
    c.deref.ensures.value c.in-Some.ensures.some c.index-2.ensures in
    let at = at_place c.self.inside.seats.items c.deref.result.now c.args.client c.in-Some.place
    c.index_mut-seat.result.now c.deref.ensures.value c.in-Some.ensures.some c.index_mut-seat.ensures.value in
    let lent = subst (λ (b : Book). c.args.root.now ≡ slot_of b c.args.slot) (sym c.self.view_is) c.requires in
    let go = root_goes c.self.inside c.self.invariant c.args.client c.in-Some.place c.index_mut-seat.result.now at
    c.in-Some.ensures.some.0 c.args.slot c.args.root.now lent
    (ap (λ (s : Seat). check_enter s c.self.inside.gate c.args.client c.args.root.now)
    (sym (one_seat c.self.inside c.in-Some.place _ _ first at)) ∙ sym c.check_enter.ensures ∙ c.in-Go.is) in
    let gate = c.gate_at_root-self-inside.ensures
    ∙ ap (λ (s : Seat). cond (option_map_or (λ (walk : Walk). walk.starts == 4) s.walk false) (Some c.args.client)
    c.self.inside.gate) (one_seat c.self.inside c.in-Some.place _ _ then at) in
    subst (λ (b : Book). advance b.world (Descend c.args.client)
    ≡ (Stands 1, changed_world c.self.inside c.in-Some.place c.enter.new.self c.gate_at_root-self-inside.result))
    c.self.view_is
    (root_does c.self.inside c.self.invariant c.args.client c.in-Some.place c.index_mut-seat.result.now at
    c.in-Some.ensures.some.0 c.args.slot c.args.root.now lent go c.enter.new.self c.gate_at_root-self-inside.result
    c.enter.ensures gate)

pub returns-clause-stands : goal.returns-clause-stands
returns-clause-stands c inode e =
    let first = at_place c.self.inside.seats.items c.deref.result.now c.args.client c.in-Some.place c.index.result.now
    c.deref.ensures.value c.in-Some.ensures.some c.index.ensures in
    let then = at_place c.self.inside.seats.items c.deref.result.now c.args.client c.in-Some.place c.index-2.result.now
    c.deref.ensures.value c.in-Some.ensures.some c.index-2.ensures in
    let at = at_place c.self.inside.seats.items c.deref.result.now c.args.client c.in-Some.place
    c.index_mut-seat.result.now c.deref.ensures.value c.in-Some.ensures.some c.index_mut-seat.ensures.value in
    let lent = subst (λ (b : Book). c.args.root.now ≡ slot_of b c.args.slot) (sym c.self.view_is) c.requires in
    let go = root_goes c.self.inside c.self.invariant c.args.client c.in-Some.place c.index_mut-seat.result.now at
    c.in-Some.ensures.some.0 c.args.slot c.args.root.now lent
    (ap (λ (s : Seat). check_enter s c.self.inside.gate c.args.client c.args.root.now)
    (sym (one_seat c.self.inside c.in-Some.place _ _ first at)) ∙ sym c.check_enter.ensures ∙ c.in-Go.is) in
    (go.here ∙ cc e, ap (λ (s : Slot). s.mark) c.set_mark.ensures)

pub returns-clause-lent : goal.returns-clause-lent
returns-clause-lent c =
    let first = at_place c.self.inside.seats.items c.deref.result.now c.args.client c.in-Some.place c.index.result.now
    c.deref.ensures.value c.in-Some.ensures.some c.index.ensures in
    let then = at_place c.self.inside.seats.items c.deref.result.now c.args.client c.in-Some.place c.index-2.result.now
    c.deref.ensures.value c.in-Some.ensures.some c.index-2.ensures in
    let at = at_place c.self.inside.seats.items c.deref.result.now c.args.client c.in-Some.place
    c.index_mut-seat.result.now c.deref.ensures.value c.in-Some.ensures.some c.index_mut-seat.ensures.value in
    let lent = subst (λ (b : Book). c.args.root.now ≡ slot_of b c.args.slot) (sym c.self.view_is) c.requires in
    let go = root_goes c.self.inside c.self.invariant c.args.client c.in-Some.place c.index_mut-seat.result.now at
    c.in-Some.ensures.some.0 c.args.slot c.args.root.now lent
    (ap (λ (s : Seat). check_enter s c.self.inside.gate c.args.client c.args.root.now)
    (sym (one_seat c.self.inside c.in-Some.place _ _ first at)) ∙ sym c.check_enter.ensures ∙ c.in-Go.is) in
    let gate = c.gate_at_root-self-inside.ensures
    ∙ ap (λ (s : Seat). cond (option_map_or (λ (walk : Walk). walk.starts == 4) s.walk false) (Some c.args.client)
    c.self.inside.gate) (one_seat c.self.inside c.in-Some.place _ _ then at) in
    root_lent c.self.inside c.self.invariant c.args.client c.in-Some.place c.index_mut-seat.result.now at
    c.in-Some.ensures.some.0 c.args.slot c.args.root.now lent go c.enter.new.self c.gate_at_root-self-inside.result
    c.enter.ensures gate c.set_mark.new.self c.set_mark.ensures

pub returns-clause-spares : goal.returns-clause-spares
returns-clause-spares c =
    let first = at_place c.self.inside.seats.items c.deref.result.now c.args.client c.in-Some.place c.index.result.now
    c.deref.ensures.value c.in-Some.ensures.some c.index.ensures in
    let then = at_place c.self.inside.seats.items c.deref.result.now c.args.client c.in-Some.place c.index-2.result.now
    c.deref.ensures.value c.in-Some.ensures.some c.index-2.ensures in
    let at = at_place c.self.inside.seats.items c.deref.result.now c.args.client c.in-Some.place
    c.index_mut-seat.result.now c.deref.ensures.value c.in-Some.ensures.some c.index_mut-seat.ensures.value in
    let lent = subst (λ (b : Book). c.args.root.now ≡ slot_of b c.args.slot) (sym c.self.view_is) c.requires in
    let go = root_goes c.self.inside c.self.invariant c.args.client c.in-Some.place c.index_mut-seat.result.now at
    c.in-Some.ensures.some.0 c.args.slot c.args.root.now lent
    (ap (λ (s : Seat). check_enter s c.self.inside.gate c.args.client c.args.root.now)
    (sym (one_seat c.self.inside c.in-Some.place _ _ first at)) ∙ sym c.check_enter.ensures ∙ c.in-Go.is) in
    let gate = c.gate_at_root-self-inside.ensures
    ∙ ap (λ (s : Seat). cond (option_map_or (λ (walk : Walk). walk.starts == 4) s.walk false) (Some c.args.client)
    c.self.inside.gate) (one_seat c.self.inside c.in-Some.place _ _ then at) in
    over_spares _ _ _ (c.args.slot ∷ []) c.self.view_is
    (root_spares c.self.inside c.self.invariant c.args.client c.in-Some.place c.index_mut-seat.result.now at
    c.in-Some.ensures.some.0 c.args.slot c.args.root.now lent go c.enter.new.self c.gate_at_root-self-inside.result
    c.enter.ensures gate _ refl refl)

pub returns-clause-rest : goal.returns-clause-rest
returns-clause-rest c =
    let at = at_place c.self.inside.seats.items c.deref.result.now c.args.client c.in-Some.place
    c.index_mut-seat.result.now c.deref.ensures.value c.in-Some.ensures.some c.index_mut-seat.ensures.value in
    rest_kept c.self.inside c.in-Some.place c.index_mut-seat.result.now c.enter.new.self at
    (ap (λ (s : Seat). s.spare) c.enter.ensures) _ c.args.self.now c.self.view_is
