use Rattle.std.specs.Prelude.{◌≡◌, ◌<◌, true, false, length, nat_le, Option, Some, option_map, IfSome, refl}
use Rattle.std.specs.Borrow.{Bor}
use Rattle.std.specs.Option.{option_map_or}
use Rattle.std.proofs.Common.{ap, sym, subst, ◌∙◌}
use Rattle.ll_rights.specs.Map.{get, len}
use Rattle.ll_seq.specs.declared.call.Call.{Call}
use Rattle.ll_laws.proofs.Chains.{same_Some}
use Rattle.ll_laws.specs.Walk.{Walk, at_ends}
use Rattle.ll_laws.specs.World.{shown}
use Rattle.ll_journal.specs.Book.{Book, slot_of}
use Rattle.ll_journal.specs.Kept.{seat_at, world_of}
use Rattle.ll_seq.specs.declared.found.Spot.{Spot}
use Rattle.ll_journal.specs.Checks.{found_at, found_last}
use Rattle.ll_journal.proofs.LastNodes.{same_besides}
use Rattle.ll_journal.specs.Needs.{IsBesides}
use Rattle.ll_journal.specs.Needs as needs
use Rattle.ll_journal.specs.Steps.{IsInTurn}
use Rattle.ll_journal.proofs.EndSlots.{besides_is, besides_within, not_besides}
use Rattle.ll_journal.proofs.RootDescents.{no_walk, walk_here}
use Rattle.ll_journal.proofs.Starts.{at_place}
use Rattle.ll_journal.proofs.journal.Journal.slot_at_ends.Goals as goal

pub returns-in_default-clause-needed : goal.returns-in_default-clause-needed
returns-in_default-clause-needed c = λ slot lent turned walk is fresh.
    absurd (cc (sym (no_walk c.self.inside c.args.client
    (ap (λ xs. seat_at xs c.args.client) (sym c.deref.ensures.value) ∙ c.in_default.ensures.none))
    ∙ ap (λ (b : Book). get b.world.walks c.args.client) c.self.view_is ∙ is))

pub returns-then-not-is_at_ends-clause-needed : goal.returns-then-not-is_at_ends-clause-needed
returns-then-not-is_at_ends-clause-needed c = λ slot lent turned walk is fresh.
    let at = at_place c.self.inside.seats.items c.deref.result.now c.args.client c.in-Some.place c.index-seat.result.now
    c.deref.ensures.value c.in-Some.ensures.some c.index-seat.ensures in
    let here : c.index-seat.result.now.walk ≡ Some walk =
    sym (walk_here c.self.inside c.self.invariant c.args.client c.in-Some.place c.index-seat.result.now at
    c.in-Some.ensures.some.0) ∙ ap (λ (b : Book). get b.world.walks c.args.client) c.self.view_is ∙ is in
    not_besides c.args.self.now c.args.client walk
    (sym (sym c.if-not-is_at_ends.true ∙ c.is_at_ends.ensures
    ∙ ap (λ (o : Option Walk). option_map_or (λ (v : Walk). at_ends v.call v.at) o false) here))

pub returns-clause-within : goal.returns-clause-within
returns-clause-within c =
    let at = at_place c.self.inside.seats.items c.deref.result.now c.args.client c.in-Some.place c.index-seat.result.now
    c.deref.ensures.value c.in-Some.ensures.some c.index-seat.ensures in
    subst (λ (b : Book). IfSome c.slot_besides.result (λ slot. slot < length b.inodes)) c.self.view_is
    (besides_within c.self.inside c.self.invariant c.args.client c.in-Some.place c.index-seat.result.now at
    c.in-Some.ensures.some.0 c.in-Some-call.call.now (found_last c.last_spot-last.result) c.slot_besides.result
    (c.slot_besides.ensures ∙ ap (λ k. needs.slot_besides c.self.inside.table.places k c.in-Some-call.call.now
    (found_last c.last_spot-last.result)) c.spare.ensures))

pub returns-clause-needed : goal.returns-clause-needed
returns-clause-needed c = λ slot lent turned walk is fresh.
    let j = c.self.inside in
    let here = c.args.here.now in
    let seat = c.index-seat.result.now in
    let full = nat_le j.room (len (shown (world_of j)).nodes) in
    let at = at_place j.seats.items c.deref.result.now c.args.client c.in-Some.place seat c.deref.ensures.value
    c.in-Some.ensures.some c.index-seat.ensures in
    let under_way : get (world_of j).walks c.args.client ≡ Some walk =
    ap (λ (b : Book). get b.world.walks c.args.client) c.self.view_is ∙ is in
    let walks : seat.walk ≡ Some walk =
    sym (walk_here j c.self.invariant c.args.client c.in-Some.place seat at c.in-Some.ensures.some.0) ∙ under_way in
    let ends : at_ends walk.call walk.at ≡ true =
    sym (ap (λ (o : Option Walk). option_map_or (λ (v : Walk). at_ends v.call v.at) o false) walks)
    ∙ sym c.is_at_ends.ensures ∙ c.if-not-is_at_ends.false in
    let call : c.in-Some-call.call.now ≡ walk.call =
    same_Some c.in-Some-call.call.now walk.call (sym (ap (option_map (λ (k : Bor Call). k.now)) c.in-Some-call.is)
    ∙ c.call.ensures ∙ ap (option_map (λ (v : Walk). v.call)) walks) in
    subst (λ (b : Book). IsBesides b c.args.client walk c.slot_besides.result) c.self.view_is
    (besides_is j c.self.invariant c.args.client c.in-Some.place seat at c.in-Some.ensures.some.0 here slot
    (lent ∙ ap (λ (b : Book). slot_of b slot) (sym c.self.view_is))
    (subst (λ (b : Book). IsInTurn b c.args.client slot) (sym c.self.view_is) turned) walk under_way fresh ends
    (found_at j.table.facts full here here walk.call) refl c.slot_besides.result
    (c.slot_besides.ensures
    ∙ ap (λ (last : Spot). needs.slot_besides j.table.places c.spare.result c.in-Some-call.call.now (found_last last))
    c.last_spot-last.ensures
    ∙ same_besides j.table.places c.spare.result j.table.facts full here c.in-Some-call.call.now
    ∙ ap (λ k. needs.slot_besides j.table.places k c.in-Some-call.call.now
    (found_at j.table.facts full here here c.in-Some-call.call.now)) c.spare.ensures
    ∙ ap (λ k. needs.slot_besides j.table.places seat.spare k (found_at j.table.facts full here here k)) call))
