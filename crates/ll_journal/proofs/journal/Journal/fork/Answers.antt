use Rattle.std.proofs.Common.{◌≡◌, [], ap, sym, subst, ◌∙◌, refl}
use Rattle.std.specs.Prelude.{option_and_then, unwrap_or, ◌&&◌}
use Rattle.ll_laws.specs.World.{Forked, NotNow, advance}
use Rattle.ll_laws.specs.declared.step.Step.TheVariants.{Fork}
use Rattle.ll_laws.specs.World as world
use Rattle.ll_journal.specs.Book.{Book, Seat}
use Rattle.ll_journal.specs.Kept.{seat_at, world_of}
use Rattle.ll_journal.specs.Checks.{goes_on}
use Rattle.ll_journal.proofs.Starts.{at_place, changed_world, kept_by, over_spares, rest_kept}
use Rattle.ll_journal.proofs.RootDescents.{no_walk, one_seat}
use Rattle.ll_journal.proofs.Forks.{at_fork, fork_not_now, fork_goes, fork_does, fork_sound, fork_spares}
use Rattle.ll_journal.proofs.journal.Journal.fork.Goals as goal

pub returns-in_default-clause-does : goal.returns-in_default-clause-does
returns-in_default-clause-does c =
    subst (λ (b : Book). advance b.world (Fork c.args.client) ≡ (NotNow, b.world)) c.self.view_is
    (ap (λ o. unwrap_or (option_and_then (world.fork (world_of c.self.inside) c.args.client) o)
    (NotNow, world_of c.self.inside))
    (no_walk c.self.inside c.args.client (ap (λ xs. seat_at xs c.args.client) (sym c.deref.ensures.value)
    ∙ c.in_default.ensures.none)))

pub returns-then-not-may_fork-clause-does : goal.returns-then-not-may_fork-clause-does
returns-then-not-may_fork-clause-does c =
    let first = at_place c.self.inside.seats.items c.deref.result.now c.args.client c.in-Some.place c.index.result.now
    c.deref.ensures.value c.in-Some.ensures.some c.index.ensures in
    subst (λ (b : Book). advance b.world (Fork c.args.client) ≡ (NotNow, b.world)) c.self.view_is
    (fork_not_now c.self.inside c.self.invariant c.args.client c.in-Some.place c.index.result.now first
    c.in-Some.ensures.some.0 c.may_fork.result c.may_fork.ensures c.if-not-may_fork.true)

pub invariant_of-self : goal.invariant_of-self
invariant_of-self c =
    let first = at_place c.self.inside.seats.items c.deref.result.now c.args.client c.in-Some.place c.index.result.now
    c.deref.ensures.value c.in-Some.ensures.some c.index.ensures in
    let at = at_place c.self.inside.seats.items c.deref.result.now c.args.client c.in-Some.place
    c.index_mut-seat.result.now c.deref.ensures.value c.in-Some.ensures.some c.index_mut-seat.ensures.value in
    let go = fork_goes c.self.inside c.self.invariant c.args.client c.in-Some.place c.index_mut-seat.result.now at
    c.in-Some.ensures.some.0 c.may_fork.result
    (c.may_fork.ensures ∙ ap (λ (s : Seat). goes_on s && at_fork s.walk)
    (one_seat c.self.inside c.in-Some.place _ _ first at)) c.if-not-may_fork.false in
    kept_by c.self.inside _ c.in-Some.place c.index_mut-seat.result.now c.fork.new.self c.self.inside.gate
    c.self.invariant at
    (ap (λ (s : Seat). s.client) c.fork.ensures) (ap (λ (s : Seat). s.spare) c.fork.ensures)
    (fork_sound c.self.inside c.self.invariant c.args.client c.in-Some.place c.index_mut-seat.result.now at
    c.in-Some.ensures.some.0 go c.fork.new.self c.fork.ensures)
    refl refl refl refl refl refl

pub returns-clause-does : goal.returns-clause-does
returns-clause-does c =
    let first = at_place c.self.inside.seats.items c.deref.result.now c.args.client c.in-Some.place c.index.result.now
    c.deref.ensures.value c.in-Some.ensures.some c.index.ensures in
    let at = at_place c.self.inside.seats.items c.deref.result.now c.args.client c.in-Some.place
    c.index_mut-seat.result.now c.deref.ensures.value c.in-Some.ensures.some c.index_mut-seat.ensures.value in
    let go = fork_goes c.self.inside c.self.invariant c.args.client c.in-Some.place c.index_mut-seat.result.now at
    c.in-Some.ensures.some.0 c.may_fork.result
    (c.may_fork.ensures ∙ ap (λ (s : Seat). goes_on s && at_fork s.walk)
    (one_seat c.self.inside c.in-Some.place _ _ first at)) c.if-not-may_fork.false in
    subst (λ (b : Book). advance b.world (Fork c.args.client)
    ≡ (Forked, changed_world c.self.inside c.in-Some.place c.fork.new.self c.self.inside.gate)) c.self.view_is
    (fork_does c.self.inside c.self.invariant c.args.client c.in-Some.place c.index_mut-seat.result.now at
    c.in-Some.ensures.some.0 go c.fork.new.self c.fork.ensures)

pub returns-clause-spares : goal.returns-clause-spares
returns-clause-spares c =
    let first = at_place c.self.inside.seats.items c.deref.result.now c.args.client c.in-Some.place c.index.result.now
    c.deref.ensures.value c.in-Some.ensures.some c.index.ensures in
    let at = at_place c.self.inside.seats.items c.deref.result.now c.args.client c.in-Some.place
    c.index_mut-seat.result.now c.deref.ensures.value c.in-Some.ensures.some c.index_mut-seat.ensures.value in
    let go = fork_goes c.self.inside c.self.invariant c.args.client c.in-Some.place c.index_mut-seat.result.now at
    c.in-Some.ensures.some.0 c.may_fork.result
    (c.may_fork.ensures ∙ ap (λ (s : Seat). goes_on s && at_fork s.walk)
    (one_seat c.self.inside c.in-Some.place _ _ first at)) c.if-not-may_fork.false in
    over_spares _ _ _ [] c.self.view_is
    (fork_spares c.self.inside c.self.invariant c.args.client c.in-Some.place c.index_mut-seat.result.now at
    c.in-Some.ensures.some.0 go c.fork.new.self c.fork.ensures _ refl refl)

pub returns-clause-rest : goal.returns-clause-rest
returns-clause-rest c =
    let at = at_place c.self.inside.seats.items c.deref.result.now c.args.client c.in-Some.place
    c.index_mut-seat.result.now c.deref.ensures.value c.in-Some.ensures.some c.index_mut-seat.ensures.value in
    rest_kept c.self.inside c.in-Some.place c.index_mut-seat.result.now c.fork.new.self at
    (ap (λ (s : Seat). s.spare) c.fork.ensures) _ c.args.self.now c.self.view_is
