use Rattle.std.specs.Prelude.{◌≡◌, ◌<◌, length, Some, option_map, IfSome}
use Rattle.std.specs.Borrow.{Bor}
use Rattle.std.proofs.Common.{ap, sym, subst, ◌∙◌}
use Rattle.ll_rights.specs.Map.{get}
use Rattle.ll_seq.specs.declared.call.Call.{Call}
use Rattle.ll_journal.specs.Book.{Book, slot_of}
use Rattle.ll_journal.specs.InWay.{IsFreeFrom, IsInWay}
use Rattle.ll_journal.specs.Kept.{seat_at, walks_from, world_of}
use Rattle.ll_journal.proofs.RootDescents.{no_walk, walk_here}
use Rattle.ll_journal.proofs.InTheWay.{has_come, none_in_way, told_in_way, told_some}
use Rattle.ll_journal.proofs.StandingWalks.{is_placed}
use Rattle.ll_journal.proofs.Starts.{at_place}
use Rattle.ll_journal.proofs.journal.Journal.slot_in_way.Goals as goal

pub returns-in_default-clause-none : goal.returns-in_default-clause-none
returns-in_default-clause-none c = λ walk is fresh ends leg here.
    absurd (cc (sym (no_walk c.self.inside c.args.client
    (ap (λ xs. seat_at xs c.args.client) (sym c.deref.ensures.value) ∙ c.in_default.ensures.none))
    ∙ ap (λ (b : Book). get b.world.walks c.args.client) c.self.view_is ∙ is))

pub returns-then-not-has_come-clause-none : goal.returns-then-not-has_come-clause-none
returns-then-not-has_come-clause-none c = λ walk is fresh ends leg here.
    let at = at_place c.self.inside.seats.items c.deref.result.now c.args.client c.in-Some.place c.index-seat.result.now
    c.deref.ensures.value c.in-Some.ensures.some c.index-seat.ensures in
    let walks : c.index-seat.result.now.walk ≡ Some walk =
    sym (walk_here c.self.inside c.self.invariant c.args.client c.in-Some.place c.index-seat.result.now at
    c.in-Some.ensures.some.0) ∙ ap (λ (b : Book). get b.world.walks c.args.client) c.self.view_is ∙ is in
    absurd (cc (sym (c.has_come.ensures ∙ has_come c.index-seat.result.now walk walks fresh ends)
    ∙ c.if-not-has_come.true))

pub returns-in_default-node_in_way-clause-none : goal.returns-in_default-node_in_way-clause-none
returns-in_default-node_in_way-clause-none c =
    let at = at_place c.self.inside.seats.items c.deref.result.now c.args.client c.in-Some.place c.index-seat.result.now
    c.deref.ensures.value c.in-Some.ensures.some c.index-seat.ensures in
    subst (λ (b : Book). IsFreeFrom b c.args.client c.args.slot) c.self.view_is
    (none_in_way c.self.inside c.self.invariant c.args.client c.in-Some.place c.index-seat.result.now at
    c.in-Some.ensures.some.0 c.args.here.now c.args.slot
    (c.requires ∙ ap (λ (b : Book). slot_of b c.args.slot) (sym c.self.view_is)) c.in-Some-call.call.now
    (sym (ap (option_map (λ (k : Bor Call). k.now)) c.in-Some-call.is) ∙ c.call.ensures)
    (sym c.has_come.ensures ∙ c.if-not-has_come.false) c.node_in_way.result
    (c.node_in_way.ensures (world_of c.self.inside) (ap (walks_from 1) (sym c.deref-2.ensures.value)))
    c.in_default-node_in_way.is)

pub returns-clause-some : goal.returns-clause-some
returns-clause-some c =
    let at = at_place c.self.inside.seats.items c.deref.result.now c.args.client c.in-Some.place c.index-seat.result.now
    c.deref.ensures.value c.in-Some.ensures.some c.index-seat.ensures in
    subst (λ (b : Book). IfSome c.slot.result (IsInWay b c.args.client)) c.self.view_is
    (told_in_way c.self.inside c.self.invariant c.args.client c.in-Some.place c.index-seat.result.now at
    c.in-Some.ensures.some.0 c.args.here.now c.args.slot
    (c.requires ∙ ap (λ (b : Book). slot_of b c.args.slot) (sym c.self.view_is)) c.in-Some-call.call.now
    (sym (ap (option_map (λ (k : Bor Call). k.now)) c.in-Some-call.is) ∙ c.call.ensures)
    (sym c.has_come.ensures ∙ c.if-not-has_come.false) c.node_in_way.result
    (c.node_in_way.ensures (world_of c.self.inside) (ap (walks_from 1) (sym c.deref-2.ensures.value)))
    c.in-Some-node_in_way.node c.in-Some-node_in_way.is c.slot.result c.slot.ensures)

pub returns-clause-within : goal.returns-clause-within
returns-clause-within c =
    subst (λ (b : Book). IfSome c.slot.result (λ slot. slot < length b.inodes)) c.self.view_is
    (is_placed c.self.inside c.self.invariant c.in-Some-node_in_way.node c.slot.result c.slot.ensures).within

pub returns-clause-none : goal.returns-clause-none
returns-clause-none c =
    let at = at_place c.self.inside.seats.items c.deref.result.now c.args.client c.in-Some.place c.index-seat.result.now
    c.deref.ensures.value c.in-Some.ensures.some c.index-seat.ensures in
    told_some c.self.inside c.self.invariant c.args.client c.in-Some.place c.index-seat.result.now at
    c.in-Some.ensures.some.0 c.args.here.now c.args.slot
    (c.requires ∙ ap (λ (b : Book). slot_of b c.args.slot) (sym c.self.view_is)) c.in-Some-call.call.now
    (sym (ap (option_map (λ (k : Bor Call). k.now)) c.in-Some-call.is) ∙ c.call.ensures)
    (sym c.has_come.ensures ∙ c.if-not-has_come.false) c.node_in_way.result
    (c.node_in_way.ensures (world_of c.self.inside) (ap (walks_from 1) (sym c.deref-2.ensures.value)))
    c.in-Some-node_in_way.node c.in-Some-node_in_way.is c.slot.result c.slot.ensures
    (IsFreeFrom c.args.self.now c.args.client c.args.slot)
