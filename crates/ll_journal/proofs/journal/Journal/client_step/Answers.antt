use Rattle.std.specs.Prelude.{◌≡◌, Some, None, refl}
use Rattle.std.specs.Vec.{with_item}
use Rattle.std.proofs.Common.{sym, subst, ◌∙◌}
use Rattle.ll_laws.proofs.Chains.{same_Some}
use Rattle.ll_journal.specs.declared.journal.Journal.TheInside.{Inside}
use Rattle.ll_journal.specs.Book.{Seat}
use Rattle.ll_journal.specs.Own.{IsOwn}
use Rattle.ll_journal.proofs.Starts.{at_place}
use Rattle.ll_journal.proofs.OwnSteps.{Stepped, not_own, own_alone, step_full, over_not_now, over_full, on_record}
use Rattle.ll_journal.proofs.OwnSteps.{on_spawn, over_stepped}
use Rattle.ll_journal.proofs.journal.Journal.client_step.Goals as goal

pub returns-in_default-own_call-clause-not_now : goal.returns-in_default-own_call-clause-not_now
returns-in_default-own_call-clause-not_now c =
    let at = at_place c.self.inside.seats.items c.deref.result.now c.args.client c.in-Some.place c.index.result.now
    c.deref.ensures.value c.in-Some.ensures.some c.index.ensures in
    over_not_now _ _ c.args.client c.args.call c.self.view_is
    (not_own c.self.inside c.self.invariant c.args.client c.args.call c.in-Some.place c.index.result.now at
    c.in-Some.ensures.some.0 (c.in_default-own_call.ensures.none))

pub returns-then-is_full-clause-does : goal.returns-then-is_full-clause-does
returns-then-is_full-clause-does c =
    let at = at_place c.self.inside.seats.items c.deref.result.now c.args.client c.in-Some.place c.index.result.now
    c.deref.ensures.value c.in-Some.ensures.some c.index.ensures in
    let asks = c.in-Some-own_call.ensures.some in (
      over_full _ _ c.args.client c.args.call c.self.view_is
          (step_full c.self.inside c.self.invariant c.args.client c.args.call c.in-Some.place c.index.result.now at
          c.in-Some.ensures.some.0 asks.0
          (own_alone c.index.result.now.client c.args.call c.in-Some-own_call.own asks.1)
          (sym c.is_full.ensures ∙ c.if-is_full.true)),
      refl,
    )

-- the journal after a client was spawned, or as many are there as may be
abbrev spawned_inside : goal.After-enter → Inside
spawned_inside c = record c.self.inside {
  history = c.enter.new.history;
  seats = c.answer_spawn-told.new.seats;
  table = c.answer_spawn-told.new.table;
}

spawn_stepped : (c : goal.After-enter)
    → Stepped c.args.self.now c.args.client c.args.call c.enter.result (spawned_inside c)
spawn_stepped c =
    let at = at_place c.self.inside.seats.items c.deref.result.now c.args.client c.in-Some.place c.index.result.now
    c.deref.ensures.value c.in-Some.ensures.some c.index.ensures in
    let asks = c.in-Some-own_call.ensures.some in
    over_stepped _ _ c.args.client c.args.call c.enter.result (spawned_inside c) c.self.view_is
    (on_spawn c.self.inside (spawned_inside c) c.self.invariant c.args.client c.args.call c.in-Some.place
    c.index.result.now at c.in-Some.ensures.some.0 asks.0 (sym c.is_full.ensures ∙ c.if-is_full.false)
    c.enter.result
    refl refl refl (subst (λ own. IsOwn c.index.result.now.client c.args.call (Some own)) c.in-Spawn.is asks.1)
    c.answer_spawn-told.result c.answer_spawn-told.ensures.ok c.answer_spawn-told.ensures.err
    c.answer_spawn-told.ensures.few
    c.enter.ensures.ok c.enter.ensures.err)

-- the journal after a call on the client's record
abbrev answered_inside : goal.After-enter-in-OnRecord → Inside
answered_inside c = record c.self.inside {
  history = c.enter-in-OnRecord.new.history;
  seats = with_item c.self.inside.seats c.in-Some.place c.answer-told.new.self;
}

record_stepped : (c : goal.After-enter-in-OnRecord)
    → Stepped c.args.self.now c.args.client c.args.call c.enter-in-OnRecord.result (answered_inside c)
record_stepped c =
    let first = at_place c.self.inside.seats.items c.deref.result.now c.args.client c.in-Some.place c.index.result.now
    c.deref.ensures.value c.in-Some.ensures.some c.index.ensures in
    let at = at_place c.self.inside.seats.items c.deref.result.now c.args.client c.in-Some.place
    c.index_mut-seat.result.now c.deref.ensures.value c.in-Some.ensures.some c.index_mut-seat.ensures.value in
    let asks =
    subst (λ (s : Seat). (s.walk ≡ None) × IsOwn s.client c.args.call (Some c.in-Some-own_call.own))
    (same_Some c.index.result.now c.index_mut-seat.result.now (sym first ∙ at)) c.in-Some-own_call.ensures.some in
    over_stepped _ _ c.args.client c.args.call c.enter-in-OnRecord.result (answered_inside c) c.self.view_is
    (on_record c.self.inside (answered_inside c) c.self.invariant c.args.client c.args.call c.in-Some.place
    c.index_mut-seat.result.now at c.in-Some.ensures.some.0 asks.0 (sym c.is_full.ensures ∙ c.if-is_full.false)
    c.enter-in-OnRecord.result
    refl refl refl c.answer-told.new.self refl refl c.answer-told.ensures.rest c.in-OnRecord.asked
    (subst (λ own. IsOwn c.index_mut-seat.result.now.client c.args.call (Some own)) c.in-OnRecord.is asks.1)
    c.answer-told.result c.answer-told.ensures.ok c.answer-told.ensures.descriptors c.answer-told.ensures.err
    c.answer-told.ensures.starved
    c.enter-in-OnRecord.ensures.ok c.enter-in-OnRecord.ensures.err)

pub invariant_of-self : goal.invariant_of-self
invariant_of-self c = (spawn_stepped c).kept

pub invariant_of-self-in-OnRecord : goal.invariant_of-self-in-OnRecord
invariant_of-self-in-OnRecord c = (record_stepped c).kept

pub returns-in-Spawn-clause-does : goal.returns-in-Spawn-clause-does
returns-in-Spawn-clause-does c = (spawn_stepped c).does

pub returns-in-Spawn-clause-spares : goal.returns-in-Spawn-clause-spares
returns-in-Spawn-clause-spares c = (spawn_stepped c).spares

pub returns-in-Spawn-clause-rest : goal.returns-in-Spawn-clause-rest
returns-in-Spawn-clause-rest c = (spawn_stepped c).rest

pub returns-in-OnRecord-clause-does : goal.returns-in-OnRecord-clause-does
returns-in-OnRecord-clause-does c = (record_stepped c).does

pub returns-in-OnRecord-clause-spares : goal.returns-in-OnRecord-clause-spares
returns-in-OnRecord-clause-spares c = (record_stepped c).spares

pub returns-in-OnRecord-clause-rest : goal.returns-in-OnRecord-clause-rest
returns-in-OnRecord-clause-rest c = (record_stepped c).rest

pub returns-in-Spawn-clause-calm : goal.returns-in-Spawn-clause-calm
returns-in-Spawn-clause-calm c e = (spawn_stepped c).calm (cc e)

pub returns-in-OnRecord-clause-calm : goal.returns-in-OnRecord-clause-calm
returns-in-OnRecord-clause-calm c e = (record_stepped c).calm (cc e)
