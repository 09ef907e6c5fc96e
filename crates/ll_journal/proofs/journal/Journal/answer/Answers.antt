use Rattle.std.specs.Prelude.{◌≡◌, ℕ, false, true, slice_set, refl, [], map, option_map}
use Rattle.std.specs.Vec.{with_item}
use Rattle.std.proofs.Common.{◌<◌, length, rules, ap, sym, subst, ◌∙◌, inl}
use Rattle.std.proofs.lemmas.Bool.{leb-false}
use Rattle.ll_seq.specs.Found.{AreFacts}
use Rattle.ll_seq.specs.Lean.{spares_memory}
use Rattle.ll_seq.specs.declared.call.Call.{Call}
use Rattle.ll_seq.specs.declared.reply.Reply.{Reply}
use Rattle.ll_seq.specs.declared.reply.Reply.TheVariants.{Refused}
use Rattle.ll_rights.specs.declared.errno.Errno.TheVariants.{HistoryFull}
use Rattle.ll_seq.specs.Memory.{takes_memory}
use Rattle.ll_seq.specs.State.{State}
use Rattle.ll_seq.specs.Step.{refusals, client_of}
use Rattle.ll_laws.specs.Sound.{IsSound}
use Rattle.ll_laws.specs.Walk.{Walk}
use Rattle.ll_laws.specs.World.{World, Replied, advance, is_full, moved_by, shown}
use Rattle.ll_laws.specs.declared.step.Step.TheVariants.{Commit}
use Rattle.ll_laws.proofs.Tests.{or_false}
use Rattle.ll_journal.specs.declared.journal.Journal.TheInside.{Inside}
use Rattle.ll_journal.specs.Book.{Book, Spares, slot_of}
use Rattle.ll_journal.specs.WalkEnds.{LeavesFree}
use Rattle.ll_journal.specs.Performed.{moved_list}
use Rattle.ll_journal.specs.Kept.{book_of, spares_of, world_of}
use Rattle.ll_journal.specs.Performed.{IsPerformed, at_seat}
use Rattle.ll_journal.proofs.Advances.{commit_replies}
use Rattle.ll_journal.proofs.AtAnswers.{EndedSo, at_end, ended_so, seat_idle}
use Rattle.ll_journal.proofs.Committed.{IsCommitted, committed_kept, committed_lent, committed_rest, committed_spares}
use Rattle.ll_journal.proofs.Committed.{committed_step, scene_at, spares_both}
use Rattle.ll_journal.proofs.DecidedCalls.{no_zero}
use Rattle.ll_journal.proofs.Ended.{commit_gives_up}
use Rattle.ll_journal.proofs.EndedWalks.{place_within}
use Rattle.ll_journal.proofs.Starved.{starves_by, walked_takes}
use Rattle.ll_journal.proofs.OwnSteps.{book_unchanged, entered, set_again}
use Rattle.ll_journal.proofs.journal.Journal.answer.Goals as goal

-- the history is full
pub returns-then-is_full-clause-does : goal.returns-then-is_full-clause-does
returns-then-is_full-clause-does c =
    let r = c.requires.reached in
    commit_gives_up c.args.self.now.world c.args.client r.walk r.ends.is r.ends.may
    (ap (λ (b : Book). is_full b.world) (sym c.self.view_is) ∙ sym c.is_full-is_full.ensures ∙ c.if-is_full.true)
    ∙ ap (λ w. (Replied (Refused HistoryFull), w)) (sym c.end_walk-walk.ensures.world)

-- ---- the call is made

ended : (c : goal.After-walk-1)
    → EndedSo c.self.inside c.self-2.inside c.args.client c.args.place c.args.slots.now c.args.found.now
    c.end_walk-walk.result c.end_walk-walk.new.lent c.index_mut-seat.result.now
ended c =
    ended_so c.self.inside c.self-2.inside c.args.self.now c.end_walk-walk.new.self c.self.view_is c.self-2.view_is
    c.args.client c.args.place c.args.slots.now c.args.found.now c.requires.reached
    c.end_walk-walk.ensures.world c.end_walk-walk.ensures.rest c.end_walk-walk.result c.end_walk-walk.ensures.ended
    c.args.lent.now c.end_walk-walk.new.lent c.requires.lent c.end_walk-walk.ensures.lent c.index_mut-seat.result.now
    c.requires.place c.requires.numbered c.index_mut-seat.ensures.value

room_left : (c : goal.After-walk-1) → is_full (world_of c.self-2.inside) ≡ false
room_left c = ap is_full (ended c).world ∙ sym c.is_full-is_full.ensures ∙ c.if-is_full.false

pub perform-requires-clause-idle : goal.perform-requires-clause-idle
perform-requires-clause-idle c =
    seat_idle c.self.invariant c.self-2.invariant c.requires.numbered c.requires.distinct (ended c) (room_left c)

pub perform-requires-clause-end : goal.perform-requires-clause-end
perform-requires-clause-end c = (
  scene_at c.self-2.inside c.args.client c.args.place,
  at_end c.self.invariant c.self-2.invariant c.requires.numbered c.requires.distinct (ended c) (room_left c),
)

-- ---- memory ran out

ended_starved : (c : goal.After-drop-in_default)
    → EndedSo c.self.inside c.self-2.inside c.args.client c.args.place c.args.slots.now c.args.found.now
    c.end_walk-walk.result c.end_walk-walk.new.lent c.index_mut-seat.result.now
ended_starved c =
    ended_so c.self.inside c.self-2.inside c.args.self.now c.end_walk-walk.new.self c.self.view_is c.self-2.view_is
    c.args.client c.args.place c.args.slots.now c.args.found.now c.requires.reached
    c.end_walk-walk.ensures.world c.end_walk-walk.ensures.rest c.end_walk-walk.result c.end_walk-walk.ensures.ended
    c.args.lent.now c.end_walk-walk.new.lent c.requires.lent c.end_walk-walk.ensures.lent c.index_mut-seat.result.now
    c.requires.place c.requires.numbered c.index_mut-seat.ensures.value

abbrev starved : goal.After-drop-in_default → Inside
starved c = record c.self-2.inside
    { seats = with_item c.self-2.inside.seats c.args.place c.perform.new.self; table = c.perform.new.table }

-- as the walk's end left it
starved_is : (c : goal.After-drop-in_default) → book_of (starved c) ≡ c.end_walk-walk.new.self
starved_is c =
    let err = c.in_default.ensures.err in
    book_unchanged c.self-2.inside (starved c) refl refl refl refl
    (ap (slice_set c.self-2.inside.seats.items c.args.place) err.0
    ∙ set_again c.self-2.inside.seats.items c.args.place c.index_mut-seat.result.now (ended_starved c).at) err.1
    ∙ c.self-2.view_is

-- nothing refuses the call
free_then : (c : goal.After-drop-in_default)
    → refusals (shown c.args.self.now.world) (client_of (shown c.args.self.now.world) c.args.client)
    c.requires.reached.walk.call ≡ []
free_then c =
    let e = ended_starved c in
    let tree : shown (world_of c.self-2.inside) ≡ shown c.args.self.now.world =
    ap shown (ap (λ (b : Book). b.world) c.self-2.view_is ∙ c.end_walk-walk.ensures.world) in
    let call = (c.end_walk-walk.ensures.ended c.requires.reached.walk c.requires.reached.ends.is).call in
    subst (λ (p : State × Call). refusals p.0 (client_of p.0 c.args.client) p.1 ≡ []) (λ i. (tree i, call i))
    (c.in_default.ensures.starved (scene_at c.self-2.inside c.args.client c.args.place)
    (at_end c.self.invariant c.self-2.invariant c.requires.numbered c.requires.distinct e
    (ap is_full e.world ∙ sym c.is_full-is_full.ensures ∙ c.if-is_full.false)))

-- the history has room
room_at_end : (c : goal.After-drop-in_default) → is_full c.args.self.now.world ≡ false
room_at_end c =
    ap (λ (b : Book). is_full b.world) (sym c.self.view_is) ∙ sym c.is_full-is_full.ensures ∙ c.if-is_full.false

-- and the call takes memory
takes_then : (c : goal.After-drop-in_default) → takes_memory c.requires.reached.walk.call ≡ true
takes_then c =
    let r = c.requires.reached in
    let sound : IsSound c.args.self.now.world =
    subst (λ (b : Book). IsSound b.world) c.self.view_is c.self.invariant.sound in
    walked_takes (client_of (shown c.args.self.now.world) c.args.client) r.walk.call
    (sound.valid c.args.client r.walk r.ends.is).0.walked
    (or_false (spares_memory r.walk.call)
    (λ h. cc (c.in_default.ensures.calm
    (ap spares_memory (c.end_walk-walk.ensures.ended r.walk r.ends.is).call ∙ h))))

pub returns-in_default-clause-does : goal.returns-in_default-clause-does
returns-in_default-clause-does c =
    let r = c.requires.reached in (
      starves_by c.args.self.now.world _ (Commit c.args.client) c.args.client r.walk.call
          (ap (option_map {U = ℕ × Call} (λ (walk : Walk). (c.args.client, walk.call))) r.ends.is)
          (commit_replies c.args.self.now.world c.args.client r.walk r.ends.is r.ends.may (room_at_end c))
          (room_at_end c) (record { takes = takes_then c; passes = free_then c }),
      ap (λ (b : Book). b.world) (starved_is c) ∙ c.end_walk-walk.ensures.world,
    )

pub returns-in_default-clause-lent : goal.returns-in_default-clause-lent
returns-in_default-clause-lent c =
    c.in_default.ensures.err.2 ∙ c.end_walk-walk.ensures.lent c.args.slots.now c.requires.lent
    ∙ ap (λ (b : Book). map (slot_of b) c.args.slots.now) (sym (starved_is c))

pub returns-in_default-clause-spares : goal.returns-in_default-clause-spares
returns-in_default-clause-spares c =
    let r = c.requires.reached in
    subst (λ (b : Book). Spares c.args.self.now b c.args.slots.now) (sym (starved_is c))
    (c.end_walk-walk.ensures.spares c.args.slots.now r.walk r.ends.is r.ends.marked)

-- ---- the call is answered

ended_then : (c : goal.Joined-walk-2)
    → EndedSo c.self.inside c.self-2.inside c.args.client c.args.place c.args.slots.now c.args.found.now
    c.end_walk-walk.result c.end_walk-walk.new.lent c.index_mut-seat.result.now
ended_then c =
    ended_so c.self.inside c.self-2.inside c.args.self.now c.end_walk-walk.new.self c.self.view_is c.self-2.view_is
    c.args.client c.args.place c.args.slots.now c.args.found.now c.requires.reached
    c.end_walk-walk.ensures.world c.end_walk-walk.ensures.rest c.end_walk-walk.result c.end_walk-walk.ensures.ended
    c.args.lent.now c.end_walk-walk.new.lent c.requires.lent c.end_walk-walk.ensures.lent c.index_mut-seat.result.now
    c.requires.place c.requires.numbered c.index_mut-seat.ensures.value

abbrev after : goal.Joined-walk-2 → Inside
after c = record c.self-2.inside
    { history = c.push.new.self; seats = c.overtake_moved.new.seats; table = c.perform.new.table }

abbrev walk_then : goal.Joined-walk-2 → Walk
walk_then c = (ended_then c).reached.walk

call_is : (c : goal.Joined-walk-2) → c.end_walk-walk.result.call ≡ (walk_then c).call
call_is c = (ended_then c).left.call

room_then : (c : goal.Joined-walk-2) → is_full (world_of c.self-2.inside) ≡ false
room_then c = ap is_full (ended_then c).world ∙ sym c.is_full-is_full.ensures ∙ c.if-is_full.false

performs : (c : goal.Joined-walk-2)
    → IsPerformed (scene_at c.self-2.inside c.args.client c.args.place)
    (at_seat c.index_mut-seat.result.now c.self-2.inside.table c.args.slots.now c.end_walk-walk.new.lent)
    (walk_then c).call c.in-Ok.told
    (at_seat c.perform.new.self c.perform.new.table c.args.slots.now c.perform.new.lent)
performs c =
    subst (λ (call : Call). IsPerformed (scene_at c.self-2.inside c.args.client c.args.place)
    (at_seat c.index_mut-seat.result.now c.self-2.inside.table c.args.slots.now c.end_walk-walk.new.lent) call
    c.in-Ok.told (at_seat c.perform.new.self c.perform.new.table c.args.slots.now c.perform.new.lent)) (call_is c)
    (c.in-Ok.ensures.ok (scene_at c.self-2.inside c.args.client c.args.place)
    (at_end c.self.invariant c.self-2.invariant c.requires.numbered c.requires.distinct (ended_then c) (room_then c)))

moves : (c : goal.Joined-walk-2)
    → moved_list c.moved_by.result ≡ moved_by (shown (world_of c.self-2.inside)) (walk_then c).call c.in-Ok.told
moves c =
    let r = (ended_then c).reached in
    let tree : shown (world_of c.self-2.inside) ≡ shown (world_of c.self.inside) = ap shown (ended_then c).world in
    c.moved_by.ensures (shown (world_of c.self-2.inside))
    (subst (λ (p : State × Call). AreFacts p.0 p.1 c.args.found.now) (λ i. (sym tree i, sym (call_is c) i))
    r.facts) r.old.way r.new.way
    (no_zero (shown (world_of c.self-2.inside)) (spares_of c.self-2.inside.seats.items) c.self-2.inside.table
    c.self-2.invariant.table)
    ∙ ap (moved_by (shown (world_of c.self-2.inside)) c.end_walk-walk.result.call) c.split-reply.ensures.entry
    ∙ ap (λ (call : Call). moved_by (shown (world_of c.self-2.inside)) call c.in-Ok.told) (call_is c)

entry_is : (c : goal.Joined-walk-2)
    → c.push.new.self ≡ entered c.self-2.inside c.args.client (walk_then c).call c.in-Ok.told
entry_is c =
    c.push.ensures ∙ ap (entered c.self-2.inside c.args.client c.end_walk-walk.result.call) c.split-reply.ensures.entry
    ∙ ap (λ (call : Call). entered c.self-2.inside c.args.client call c.in-Ok.told) (call_is c)

committed : (c : goal.Joined-walk-2)
    → IsCommitted c.self.inside c.self-2.inside (after c) c.args.client c.args.place c.args.slots.now
    c.perform.new.lent c.in-Ok.told
committed c = record {
  h = c.self.invariant;
  mid = c.self-2.invariant;
  walk = walk_then c;
  is = (ended_then c).reached.ends.is;
  may = (ended_then c).reached.ends.may;
  ended = (ended_then c).world;
  room_left = room_then c;
  old = c.index_mut-seat.result.now;
  at = (ended_then c).at;
  numbered = c.requires.numbered;
  new = c.perform.new.self;
  idle = c.in-Ok.ensures.rest
      ∙ sym (seat_idle c.self.invariant c.self-2.invariant c.requires.numbered c.requires.distinct (ended_then c)
      (room_then c));
  before = c.end_walk-walk.new.lent;
  performs = performs c;
  moved = moved_list c.moved_by.result;
  moves = moves c;
  seats = c.overtake_moved.ensures;
  history = entry_is c;
  rules = refl;
  room = refl;
  gate = refl;
}

pub invariant_of-self-2 : goal.invariant_of-self-2
invariant_of-self-2 c = committed_kept (committed c)

pub returns-clause-does : goal.returns-clause-does
returns-clause-does c = (
  ap (λ (b : Book). is_full b.world) (sym c.self.view_is) ∙ sym c.is_full-is_full.ensures ∙ c.if-is_full.false,
  subst (λ (p : Book × Reply). advance p.0.world (Commit c.args.client) ≡ (Replied p.1, world_of (after c)))
      (λ i. (c.self.view_is i, sym c.split-reply.ensures.caller i)) (committed_step (committed c)),
)

pub returns-clause-lent : goal.returns-clause-lent
returns-clause-lent c = committed_lent (committed c)

pub returns-clause-spares : goal.returns-clause-spares
returns-clause-spares c =
    let r = c.requires.reached in
    spares_both c.args.self.now c.end_walk-walk.new.self (book_of (after c)) c.args.slots.now
    (c.end_walk-walk.ensures.spares c.args.slots.now r.walk r.ends.is r.ends.marked)
    (subst (λ (b : Book). Spares b (book_of (after c)) c.args.slots.now) c.self-2.view_is
    (committed_spares (committed c)))

pub returns-in_default-clause-rest : goal.returns-in_default-clause-rest
returns-in_default-clause-rest c =
    inl (starved_is c ∙ c.end_walk-walk.ensures.rest
    ∙ ap (λ (w : World). record c.args.self.now { world = w }) (ap (λ (b : Book). b.world) (sym (starved_is c))))

pub returns-clause-rest : goal.returns-clause-rest
returns-clause-rest c =
    subst (λ (b : Book). LeavesFree b c.args.client c.args.slots.now (book_of (after c))) c.self.view_is
    (committed_rest (committed c) (ended_then c).inodes
    (ap (λ (b : Book). b.free) (c.self-2.view_is ∙ c.end_walk-walk.ensures.rest)
    ∙ ap (λ (b : Book). b.free) (sym c.self.view_is)) (ended_then c).spares)

-- ---- what is plain

pub end_walk-walk-requires-clause-walk : goal.end_walk-walk-requires-clause-walk
end_walk-walk-requires-clause-walk c = (c.requires.reached.walk, c.requires.reached.ends.is)

pub index_mut-seat-requires : goal.index_mut-seat-requires
index_mut-seat-requires c =
    let within : c.args.place < length c.self-2.inside.seats.items =
    place_within c.self-2.inside c.end_walk-walk.new.self c.self-2.view_is c.args.place
    (subst (λ (b : Book). c.args.place < length b.spares) (sym c.end_walk-walk.ensures.rest) c.requires.place) in
    search rules

pub push-requires : goal.push-requires
push-requires c =
    leb-false c.self-2.inside.history.limit (length c.self-2.inside.history.entries)
    (ap (λ (b : Book). is_full b.world) c.self-2.view_is ∙ ap is_full c.end_walk-walk.ensures.world
    ∙ ap (λ (b : Book). is_full b.world) (sym c.self.view_is) ∙ sym c.is_full-is_full.ensures ∙ c.if-is_full.false)

pub returns-then-is_full-clause-lent : goal.returns-then-is_full-clause-lent
returns-then-is_full-clause-lent c = c.end_walk-walk.ensures.lent c.args.slots.now c.requires.lent

pub returns-then-is_full-clause-spares : goal.returns-then-is_full-clause-spares
returns-then-is_full-clause-spares c =
    c.end_walk-walk.ensures.spares c.args.slots.now c.requires.reached.walk c.requires.reached.ends.is
    c.requires.reached.ends.marked

pub returns-then-is_full-clause-rest : goal.returns-then-is_full-clause-rest
returns-then-is_full-clause-rest c = inl c.end_walk-walk.ensures.rest

pub returns-in_default-clause-calm : goal.returns-in_default-clause-calm
returns-in_default-clause-calm c e = let r = c.requires.reached in (r.walk, r.ends.is, takes_then c)

pub returns-clause-calm : goal.returns-clause-calm
returns-clause-calm c e = absurd (cc e)

pub returns-clause-not_astray : goal.returns-clause-not_astray
returns-clause-not_astray c e = cc e
