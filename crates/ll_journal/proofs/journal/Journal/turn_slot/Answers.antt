use Rattle.std.specs.Prelude.{◌≡◌, ◌<◌, length, Some, None, IfSome, IfNone}
use Rattle.std.proofs.Common.{ap, sym, subst, ◌∙◌}
use Rattle.ll_laws.specs.Walk.{Leg}
use Rattle.ll_journal.specs.Book.{Book, inode_in}
use Rattle.ll_journal.specs.Kept.{seat_at}
use Rattle.ll_journal.specs.Steps.{leg_in_turn}
use Rattle.ll_journal.proofs.Starts.{at_place}
use Rattle.ll_journal.proofs.StandingWalks.{is_placed, nobody_in_turn, not_in_turn, turn_lies, turn_there}
use Rattle.ll_journal.proofs.journal.Journal.turn_slot.Goals as goal

pub returns-in_default-clause-none : goal.returns-in_default-clause-none
returns-in_default-clause-none c =
    subst (λ (b : Book). leg_in_turn b.world c.args.client ≡ None) c.self.view_is
    (nobody_in_turn c.self.inside c.args.client (ap (λ xs. seat_at xs c.args.client) (sym c.deref.ensures.value)
    ∙ c.in_default.ensures.none))

pub returns-in_default-here-clause-none : goal.returns-in_default-here-clause-none
returns-in_default-here-clause-none c =
    let at = at_place c.self.inside.seats.items c.deref.result.now c.args.client c.in-Some.place c.index.result.now
    c.deref.ensures.value c.in-Some.ensures.some c.index.ensures in
    subst (λ (b : Book). leg_in_turn b.world c.args.client ≡ None) c.self.view_is
    (not_in_turn c.self.inside c.self.invariant c.args.client c.in-Some.place c.index.result.now at
    c.in-Some.ensures.some.0 (sym c.here.ensures ∙ c.in_default-here.is))

pub returns-clause-some : goal.returns-clause-some
returns-clause-some c =
    let at = at_place c.self.inside.seats.items c.deref.result.now c.args.client c.in-Some.place c.index.result.now
    c.deref.ensures.value c.in-Some.ensures.some c.index.ensures in
    subst (λ (b : Book). IfSome c.slot.result (λ slot. (leg : Leg) × (leg_in_turn b.world c.args.client ≡ Some leg)
    × (inode_in b slot ≡ leg.here))) c.self.view_is
    (turn_lies c.self.inside c.self.invariant c.args.client c.in-Some.place c.index.result.now at
    c.in-Some.ensures.some.0 c.in-Some-here.here (sym c.here.ensures ∙ c.in-Some-here.is) c.slot.result
    c.slot.ensures)

pub returns-clause-within : goal.returns-clause-within
returns-clause-within c =
    subst (λ (b : Book). IfSome c.slot.result (λ slot. slot < length b.inodes)) c.self.view_is
    (is_placed c.self.inside c.self.invariant c.in-Some-here.here c.slot.result c.slot.ensures).within

pub returns-clause-none : goal.returns-clause-none
returns-clause-none c =
    let at = at_place c.self.inside.seats.items c.deref.result.now c.args.client c.in-Some.place c.index.result.now
    c.deref.ensures.value c.in-Some.ensures.some c.index.ensures in
    subst (λ (b : Book). IfNone c.slot.result (leg_in_turn b.world c.args.client ≡ None)) c.self.view_is
    (turn_there c.self.inside c.self.invariant c.args.client c.in-Some.place c.index.result.now at
    c.in-Some.ensures.some.0 c.in-Some-here.here (sym c.here.ensures ∙ c.in-Some-here.is) c.slot.result
    c.slot.ensures)
