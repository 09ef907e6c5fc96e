use Rattle.std.proofs.Common.{◌≡◌, ◌<◌, Option, Some, None, ℕ, length, true, ap, sym, subst, ◌∙◌}
use Rattle.std.specs.Prelude.{is_none, option_and_then, slice_get, unwrap_or, IfSome}
use Rattle.ll_seq.specs.declared.call.Call.{Call}
use Rattle.ll_laws.specs.World.{NotNow, advance}
use Rattle.ll_laws.specs.declared.step.Step.TheVariants.{Descend}
use Rattle.ll_laws.specs.World as world
use Rattle.ll_journal.specs.Book.{Book, slot_of}
use Rattle.ll_journal.specs.Kept.{seat_at, world_of}
use Rattle.ll_journal.specs.Stations.{Names, call_of}
use Rattle.ll_journal.specs.Seated.{call_in}
use Rattle.ll_journal.specs.declared.onward.Onward.{Onward}
use Rattle.ll_journal.specs.Steps.{IsAstrayBelow, IsNext}
use Rattle.ll_journal.proofs.ClientTables.{many_spares}
use Rattle.ll_journal.proofs.Starts.{at_place}
use Rattle.ll_journal.proofs.RootDescents.{no_walk}
use Rattle.ll_journal.proofs.Descents.{down_not_now, down_astray}
use Rattle.ll_journal.proofs.KnownNames.{names_seated}
use Rattle.ll_journal.proofs.SoughtNext.{goes_next, goes_there}
use Rattle.ll_journal.proofs.journal.Journal.descend.Goals as goal

pub returns-in_default-clause-does : goal.returns-in_default-clause-does
returns-in_default-clause-does c =
    subst (λ (b : Book). advance b.world (Descend c.args.client) ≡ (NotNow, b.world)) c.self.view_is
    (ap (λ o. unwrap_or (option_and_then (world.descend (world_of c.self.inside) c.args.client) o)
    (NotNow, world_of c.self.inside))
    (no_walk c.self.inside c.args.client (ap (λ xs. seat_at xs c.args.client) (sym c.deref.ensures.value)
    ∙ c.in_default.ensures.none)))

pub check_by_hint-requires : goal.check_by_hint-requires
check_by_hint-requires c =
    let first = at_place c.self.inside.seats.items c.deref.result.now c.args.client c.in-Some.place c.index.result.now
    c.deref.ensures.value c.in-Some.ensures.some c.index.ensures in
    by first c.args.hint (subst (λ (b : Book). IfSome c.args.hint (λ on. (call : Call)
    → call_of b.world c.args.client ≡ Some call → Names call c.args.from.now on.name on.inode)) (sym c.self.view_is)
    c.requires.names)
  where
    by : (first : slice_get c.self.inside.seats.items c.in-Some.place ≡ Some c.index.result.now) (hint : Option Onward)
        → IfSome hint (λ on. (call : Call) → call_of (world_of c.self.inside) c.args.client ≡ Some call
        → Names call c.args.from.now on.name on.inode)
        → IfSome hint (λ on. (call : Call) → call_in c.index.result.now ≡ Some call
        → Names call c.args.from.now on.name on.inode)
    by first None names = tt
    by first (Some on) names = names_seated c.self.inside c.self.invariant c.args.client c.in-Some.place
        c.index.result.now first c.in-Some.ensures.some.0 c.args.from.now on.name on.inode names

pub returns-in-NotNow-clause-does : goal.returns-in-NotNow-clause-does
returns-in-NotNow-clause-does c =
    let first = at_place c.self.inside.seats.items c.deref.result.now c.args.client c.in-Some.place c.index.result.now
    c.deref.ensures.value c.in-Some.ensures.some c.index.ensures in
    let lent_from = subst (λ (b : Book). c.args.from.now ≡ slot_of b c.args.from_slot) (sym c.self.view_is)
    c.requires.from in
    let lent_to = subst (λ (b : Book). c.args.to.now ≡ slot_of b c.args.to_slot) (sym c.self.view_is) c.requires.to in
    subst (λ (b : Book). advance b.world (Descend c.args.client) ≡ (NotNow, b.world)) c.self.view_is
    (down_not_now c.self.inside c.self.invariant c.args.client c.in-Some.place c.index.result.now first
    c.in-Some.ensures.some.0 c.args.from_slot c.args.to_slot c.args.from.now c.args.to.now lent_from lent_to
    (sym c.check_by_hint.ensures ∙ c.in-NotNow.is))

pub returns-in-Astray-clause-astray : goal.returns-in-Astray-clause-astray
returns-in-Astray-clause-astray c e =
    let first = at_place c.self.inside.seats.items c.deref.result.now c.args.client c.in-Some.place c.index.result.now
    c.deref.ensures.value c.in-Some.ensures.some c.index.ensures in
    let lent_from = subst (λ (b : Book). c.args.from.now ≡ slot_of b c.args.from_slot) (sym c.self.view_is)
    c.requires.from in
    let lent_to = subst (λ (b : Book). c.args.to.now ≡ slot_of b c.args.to_slot) (sym c.self.view_is) c.requires.to in
    subst (λ (b : Book). IsAstrayBelow b c.args.client c.args.from_slot c.args.to_slot) c.self.view_is
    (down_astray c.self.inside c.self.invariant c.args.client c.in-Some.place c.index.result.now first
    c.in-Some.ensures.some.0 c.args.from_slot c.args.to_slot c.args.from.now c.args.to.now lent_from lent_to
    (sym c.check_by_hint.ensures ∙ c.in-Astray.is))

pub go_down-requires-clause-place : goal.go_down-requires-clause-place
go_down-requires-clause-place c =
    subst (λ n. c.in-Some.place < n) (ap length c.deref.ensures.value ∙ sym (many_spares c.self.inside.seats.items)
    ∙ ap (λ (b : Book). length b.spares) c.self.view_is) c.in-Some.ensures.some.1

pub go_down-requires-clause-next : goal.go_down-requires-clause-next
go_down-requires-clause-next c =
    let first = at_place c.self.inside.seats.items c.deref.result.now c.args.client c.in-Some.place c.index.result.now
    c.deref.ensures.value c.in-Some.ensures.some c.index.ensures in
    let lent_from = subst (λ (b : Book). c.args.from.now ≡ slot_of b c.args.from_slot) (sym c.self.view_is)
    c.requires.from in
    let lent_to = subst (λ (b : Book). c.args.to.now ≡ slot_of b c.args.to_slot) (sym c.self.view_is) c.requires.to in
    subst (λ (b : Book). IsNext b c.args.client c.args.from_slot c.args.to_slot) c.self.view_is
    (goes_next c.self.inside c.self.invariant c.args.client c.in-Some.place c.index.result.now first
    c.in-Some.ensures.some.0 c.args.from_slot c.args.to_slot c.args.from.now c.args.to.now lent_from lent_to
    (sym c.check_by_hint.ensures ∙ c.in-Go.is))

unmarked : (o : Option ℕ) → is_none o ≡ true → o ≡ None
unmarked None e = cc
unmarked (Some x) e = absurd (cc e)

pub go_down-requires-clause-free : goal.go_down-requires-clause-free
go_down-requires-clause-free c = unmarked c.args.to.now.node.mark
    (goes_there c.self.inside.table.facts c.args.from.now c.args.to.now c.index.result.now
    (sym c.check_by_hint.ensures ∙ c.in-Go.is)).1
