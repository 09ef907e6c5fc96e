use Rattle.std.proofs.Common.{sym, subst}
use Rattle.std.specs.Option.{option_map_or}
use Rattle.ll_journal.specs.Book.{Book, Seat}
use Rattle.ll_journal.specs.Kept.{seat_at, world_of}
use Rattle.ll_laws.specs.World.{NotNow, advance}
use Rattle.ll_laws.specs.declared.step.Step.TheVariants.{Begin}
use Rattle.std.proofs.Common.{ap, ◌∙◌, ◌≡◌, false, refl}
use Rattle.ll_laws.specs.declared.step.Step.TheVariants.{ClientStep}
use Rattle.ll_journal.proofs.Departures.{walks_not_alone}
use Rattle.ll_journal.proofs.Starts.{at_place, may, not_here, turned_down}
use Rattle.ll_journal.proofs.journal.Journal.begin.Goals as goal

pub returns-in_default-clause-not_now : goal.returns-in_default-clause-not_now
returns-in_default-clause-not_now c =
    subst (λ (b : Book). advance b.world (Begin c.args.client c.args.call) ≡ (NotNow, b.world)) c.self.view_is
    (not_here (world_of c.self.inside) c.self.inside.seats.items c.self.invariant.seated refl c.args.client c.args.call
    (ap (λ o. option_map_or (λ (seat : Seat). may seat c.args.call) o false)
    (ap (λ xs. seat_at xs c.args.client) (sym c.deref.ensures.value) ∙ c.in_default.ensures.none)))

pub returns-then-not-may_begin-clause-not_now : goal.returns-then-not-may_begin-clause-not_now
returns-then-not-may_begin-clause-not_now c =
    let at = at_place c.self.inside.seats.items c.deref.result.now c.args.client c.in-Some.place c.index.result.now
    c.deref.ensures.value c.in-Some.ensures.some c.index.ensures in
    subst (λ (b : Book). advance b.world (Begin c.args.client c.args.call) ≡ (NotNow, b.world)) c.self.view_is
    (turned_down c.self.inside c.self.invariant c.args.client c.in-Some.place c.args.call c.index.result.now at
    c.in-Some.ensures.some.0 c.may_begin.result c.may_begin.ensures c.if-not-may_begin.true)

pub set_out-requires : goal.set_out-requires
set_out-requires c =
    let at = at_place c.self.inside.seats.items c.deref.result.now c.args.client c.in-Some.place c.index.result.now
    c.deref.ensures.value c.in-Some.ensures.some c.index.ensures in
    subst (λ (b : Book). advance b.world (ClientStep c.args.client c.args.call) ≡ (NotNow, b.world)) c.self.view_is
    (walks_not_alone c.self.inside c.self.invariant c.args.client c.args.call c.in-Some.place c.index.result.now at
    c.in-Some.ensures.some.0
    (sym c.may_begin.ensures ∙ c.if-not-may_begin.false))
