-- What a step does to the history, and to the calls of the walks that are under way.
use Rattle.std.specs.Prelude.{◌≡◌, ◌≢◌, ◌⊎◌, ℕ, ◌+◌, ◌≤◌, Bool, true, false, cond, not, ◌&&◌, ◌||◌, ◌==◌}
use Rattle.std.specs.Prelude.{List, [], ◌∷◌, ◌++◌, Option, Some, None, is_none, is_some, unwrap_or, option_map}
use Rattle.std.specs.Prelude.{option_and_then, refl}
use Rattle.std.specs.Ordering.{nat_cmp}
use Rattle.std.specs.Cmp.{nat_cmp_total}
use Rattle.std.specs.FinMap.{nat_cmp-IsAntisymmetric}
use Rattle.std.proofs.Common.{sym, ap, subst, ◌∙◌, inl, inr, arith}
use Rattle.std.proofs.lemmas.List.{append-nil}
use Rattle.ll_rights.specs.declared.errno.Errno.TheVariants.{HistoryFull, NoMemory}
use Rattle.ll_rights.specs.Errno.{errno_number}
use Rattle.ll_rights.specs.Map.{Map, get, insert, remove, has}
use Rattle.ll_rights.proofs.Maps.{get-insert_same, get-insert_other, get-remove_other, got_left}
use Rattle.ll_seq.specs.declared.call.Call.{Call}
use Rattle.ll_seq.specs.declared.call.Call.TheVariants.{Connect}
use Rattle.ll_seq.specs.declared.reply.Entry.{Entry}
use Rattle.ll_seq.specs.declared.reply.Reply.{Reply}
use Rattle.ll_seq.specs.declared.reply.Reply.TheVariants.{Done, Opened, Bytes, Wrote, Listed, Found, Created, Spawned}
use Rattle.ll_seq.specs.declared.reply.Reply.TheVariants.{Refused, Denied}
use Rattle.ll_seq.specs.State.{State, root}
use Rattle.ll_seq.specs.Step.{step, client_of}
use Rattle.ll_laws.specs.declared.step.Step.{Step}
use Rattle.ll_laws.specs.declared.step.Step.TheVariants.{Join, Begin, Descend, Fork, Commit, Restart, FdCommit}
use Rattle.ll_laws.specs.declared.step.Step.TheVariants.{ClientStep}
use Rattle.ll_laws.specs.Walk.{Walk, Leg, Position, further, turn, forked, is_above}
use Rattle.ll_laws.specs.World.{World, Outcome, NotNow, Begun, Stands, Forked, Restarted, Replied, Joined, shown}
use Rattle.ll_laws.specs.World.{domain_of, is_idle, is_walked, is_on_descriptor, is_alone, is_marked, is_full}
use Rattle.ll_laws.specs.World.{may_commit, takes_gate, next_number, reply_to, with_walk, without_walk, map_values}
use Rattle.ll_laws.specs.World.{overtaken, moved_by, joined, begin, enter, stand, descend, fork, commit, restart}
use Rattle.ll_laws.specs.World.{direct, advance, called}
use Rattle.ll_laws.proofs.Shapes.{begun, committed, entered, join, may_hold, replied, restarted, stood, walking}
use Rattle.ll_laws.proofs.Shapes.{with_entry, with_stale}
use Rattle.ll_laws.proofs.Tests.{both, not_true}
use Rattle.ll_laws.proofs.WalkMaps.{get-map_values}
use Rattle.ll_seq.proofs.Settled.{answered}

abbrev pub entry_of : ℕ → Call → Reply → Entry
entry_of client call reply = record { client = client; call = call; reply = reply }

-- the call of the client's walk
abbrev pub doing_of : World → ℕ → Option Call
doing_of w client = option_map (λ (walk : Walk). walk.call) (get w.walks client)

-- The same tree, with these entries more; the calls of the walks of others stay, and the client's is this
pub record Grown (w v : World) (c : ℕ) (doing : Option Call) (added : List Entry) : Type 0 where
  pub came : v.history ≡ w.history ++ added
  pub rules : v.rules ≡ w.rules
  pub room : v.room ≡ w.room
  pub limit : v.limit ≡ w.limit
  pub others : (d : ℕ) → d ≢ c → doing_of v d ≡ doing_of w d
  pub mine : doing_of v c ≡ doing

-- the client whose step it is, and the call of its walk after it
abbrev pub client_in : World → Step → ℕ
client_in w Join = next_number w
client_in w (Begin c call) = c
client_in w (Descend c) = c
client_in w (Fork c) = c
client_in w (Commit c) = c
client_in w (Restart c) = c
client_in w (FdCommit c call) = c
client_in w (ClientStep c call) = c

abbrev pub doing_after : World → Step → Option Call
doing_after w Join = doing_of w (next_number w)
doing_after w (Begin c call) = Some call
doing_after w (Descend c) = doing_of w c
doing_after w (Fork c) = doing_of w c
doing_after w (Commit c) = None
doing_after w (Restart c) = doing_of w c
doing_after w (FdCommit c call) = None
doing_after w (ClientStep c call) = None

-- the call that an entry of the step would be of
abbrev pub asked : World → Step → Option Call
asked w Join = Some Connect
asked w (Commit c) = doing_of w c
asked w (FdCommit c call) = Some call
asked w (ClientStep c call) = Some call
asked w s = None

-- and whose it is
abbrev pub by_client : ℕ → Option Call → Option (ℕ × Call)
by_client number = option_map {U = ℕ × Call} (λ call. (number, call))

pub called_is : (w : World) (s : Step) → called w s ≡ by_client (client_in w s) (asked w s)
called_is w Join = refl
called_is w (Begin number call) = refl
called_is w (Descend number) = refl
called_is w (Fork number) = refl
called_is w (Commit number) = by (get w.walks number)
  where
    by : (o : Option Walk) → option_map {U = ℕ × Call} (λ (walk : Walk). (number, walk.call)) o
        ≡ by_client number (option_map (λ (walk : Walk). walk.call) o)
    by None = refl
    by (Some walk) = refl
called_is w (Restart number) = refl
called_is w (FdCommit number call) = refl
called_is w (ClientStep number call) = refl

abbrev Grows : World → Step → World → List Entry → Type 0
Grows w s v added = Grown w v (client_in w s) (doing_after w s) added

-- by the outcome
abbrev pub Went : World → Step → Outcome × World → Type 0
Went w s (NotNow, v) = v ≡ w
Went w s (Begun, v) = Grown w v (client_in w s) (doing_after w s) []
Went w s (Stands inode, v) = Grown w v (client_in w s) (doing_after w s) []
Went w s (Forked, v) = Grown w v (client_in w s) (doing_after w s) []
Went w s (Restarted, v) = Grown w v (client_in w s) (doing_after w s) []
Went w s (Replied reply, v) =
    ((is_full w ≡ true) × Grown w v (client_in w s) (doing_after w s) [])
    ⊎ ((s ≡ Join) × (v ≡ w))
    ⊎ ((is_full w ≡ false) × (call : Call) × (asked w s ≡ Some call) × (reply ≡ reply_to w (client_in w s) call)
    × Grown w v (client_in w s) (doing_after w s) (entry_of (client_in w s) call reply ∷ []) × (s ≢ Join))
Went w s (Joined number, v) =
    (is_full w ≡ false) × (number ≡ client_in w s) × (Done ≡ reply_to w number Connect)
    × Grown w v number (doing_of w number) (entry_of number Connect Done ∷ [])

-- ---- the walks

abbrev call_in : Option Walk → Option Call
call_in = option_map (λ (walk : Walk). walk.call)

-- a walk of this call is put in
put_other : (m : Map nat_cmp Walk) (c : ℕ) (walk : Walk) (d : ℕ) → d ≢ c
    → call_in (get (insert m c walk) d) ≡ call_in (get m d)
put_other m c walk d other = ap call_in (get-insert_other nat_cmp_total nat_cmp-IsAntisymmetric m c walk d other)

put_mine : (m : Map nat_cmp Walk) (c : ℕ) (walk : Walk) → call_in (get (insert m c walk) c) ≡ Some walk.call
put_mine m c walk = ap call_in (get-insert_same nat_cmp_total nat_cmp-IsAntisymmetric m c walk)

-- a walk goes, and others are overtaken
over_same : (moved : List ℕ) (o : Option Walk) → call_in (option_map (overtaken moved) o) ≡ call_in o
over_same moved None = refl
over_same moved (Some walk) = refl

over_calls : (moved : List ℕ) (m : Map nat_cmp Walk) (d : ℕ)
    → call_in (get (map_values (overtaken moved) m) d) ≡ call_in (get m d)
over_calls moved m d = ap call_in (get-map_values (overtaken moved) m d) ∙ over_same moved (get m d)

pub gone : (m : Map nat_cmp Walk) (c : ℕ) → get (remove m c) c ≡ None
gone m c = by (get (remove m c) c) refl
  where
    by : (o : Option Walk) → get (remove m c) c ≡ o → o ≡ None
    by None e = refl
    by (Some walk) e = absurd ((got_left nat_cmp_total nat_cmp-IsAntisymmetric m c c walk e).1 refl)

none_walks : (o : Option Walk) → is_some o ≡ false → call_in o ≡ None
none_walks None e = refl
none_walks (Some walk) e = absurd (cc e)

-- ---- steps of a walk

of_walk : (w : World) (c : ℕ) (s : Step) (f : World → ℕ → Walk → Option (Outcome × World))
    → ((walk : Walk) → get w.walks c ≡ Some walk → Went w s (unwrap_or (f w c walk) (NotNow, w)))
    → Went w s (unwrap_or (walking w c f) (NotNow, w))
of_walk w c s f each = by (get w.walks c) refl
  where
    by : (o : Option Walk) → get w.walks c ≡ o → Went w s (unwrap_or (option_and_then (f w c) o) (NotNow, w))
    by None e = refl
    by (Some walk) e = each walk e

-- the walk goes on with its call
module _ (w : World) (c : ℕ) (walk : Walk) (is : get w.walks c ≡ Some walk) where
  on : (after : Walk) (gate : Option ℕ) → after.call ≡ walk.call
      → Grown w (record w { walks = insert w.walks c after; gate = gate }) c (doing_of w c) []
  on after gate same = record {
    came = sym (append-nil w.history);
    rules = refl;
    room = refl;
    limit = refl;
    others = put_other w.walks c after;
    mine = put_mine w.walks c after ∙ ap (λ (k : Call). Some k) same ∙ sym (ap call_in is);
  }

  enter_went : Went w (Descend c) (unwrap_or (enter w c walk) (NotNow, w))
  enter_went = elim (not (is_marked w root) && (not (walk.starts == 4) || may_hold w c)) as
      (λ b. Went w (Descend c) (unwrap_or (cond b (Some (Stands root, entered w c walk)) None) (NotNow, w)))
      [ true ↦ on _ _ refl | false ↦ refl ]

  stand_went : (o : Option Leg) → Went w (Descend c) (unwrap_or (option_and_then (stand w c walk) o) (NotNow, w))
  stand_went None = refl
  stand_went (Some leg) = elim (not (is_marked w leg.here)) as
      (λ b. Went w (Descend c) (unwrap_or (cond b (Some (Stands leg.here, stood w c walk leg)) None) (NotNow, w)))
      [ true ↦ on _ w.gate refl | false ↦ refl ]

  descend_went : Went w (Descend c) (unwrap_or (descend w c walk) (NotNow, w))
  descend_went = by walk.stale (is_above walk.at)
    where
      by : (a b : Bool) → Went w (Descend c)
          (unwrap_or (cond a None (cond b (enter w c walk)
          (option_and_then (stand w c walk) (option_and_then (further (shown w) (domain_of w c)) (turn walk.at)))))
          (NotNow, w))
      by true b = refl
      by false true = enter_went
      by false false = stand_went (option_and_then (further (shown w) (domain_of w c)) (turn walk.at))

  fork_went : Went w (Fork c) (unwrap_or (fork w c walk) (NotNow, w))
  fork_went = by walk.stale (forked walk.call walk.at)
    where
      by : (a : Bool) (o : Option Position)
          → Went w (Fork c) (unwrap_or (cond a None
          (option_map (λ at. (Forked, with_walk w c (record walk { at = at }))) o)) (NotNow, w))
      by true o = refl
      by false None = refl
      by false (Some at) = on (record walk { at = at }) w.gate refl

  restart_went : Went w (Restart c) (unwrap_or (restart w c walk) (NotNow, w))
  restart_went = elim walk.stale as
      (λ b. Went w (Restart c) (unwrap_or (cond b (Some (Restarted, restarted w c walk)) None) (NotNow, w)))
      [ true ↦ on _ w.gate refl | false ↦ refl ]

-- as it is answered
abbrev either : World → ℕ → Call → Bool → Reply × World
either w c call b = cond b (Refused HistoryFull, w) (reply_to w c call, with_entry w c call (reply_to w c call))

over : (w : World) (c : ℕ) (moved : List ℕ) (history : List Entry) (added : List Entry) → history ≡ w.history ++ added
    → Grown w (with_stale moved (record (without_walk w c) { history = history })) c None added
over w c moved history added came = record {
  came = came;
  rules = refl;
  room = refl;
  limit = refl;
  others = λ d other. over_calls moved (remove w.walks c) d
      ∙ ap call_in (get-remove_other nat_cmp_total nat_cmp-IsAntisymmetric w.walks c d other);
  mine = over_calls moved (remove w.walks c) c ∙ ap call_in (gone w.walks c);
}

commit_went : (w : World) (c : ℕ) (walk : Walk) → get w.walks c ≡ Some walk
    → Went w (Commit c) (unwrap_or (commit w c walk) (NotNow, w))
commit_went w c walk is = elim (may_commit w c walk) as
    (λ b. Went w (Commit c) (unwrap_or (cond b (Some (committed w c walk)) None) (NotNow, w)))
    [ true ↦ by (is_full w) refl | false ↦ refl ]
  where
    by : (b : Bool) → is_full w ≡ b → let r = either (without_walk w c) c walk.call b in
        Went w (Commit c) (Replied r.0, with_stale (moved_by (shown w) walk.call r.0) r.1)
    by true e = inl (
      e,
      over w c (moved_by (shown w) walk.call (Refused HistoryFull)) w.history []
          (sym (append-nil w.history)),
    )
    by false e = inr (inr (
      e,
      walk.call,
      ap call_in is,
      refl,
      over w c (moved_by (shown w) walk.call (reply_to w c walk.call))
          (w.history ++ entry_of c walk.call (reply_to w c walk.call) ∷ [])
          (entry_of c walk.call (reply_to w c walk.call) ∷ []) refl,
      λ j. cc j,
    ))

-- ---- steps without a walk

plain : (w : World) (c : ℕ) (doing : Option Call) (history : List Entry) (added : List Entry)
    → history ≡ w.history ++ added → doing_of w c ≡ doing → Grown w (record w { history = history }) c doing added
plain w c doing history added came mine =
    record { came = came; rules = refl; room = refl; limit = refl; others = λ d other. refl; mine = mine }

direct_went : (w : World) (c : ℕ) (call : Call) (s : Step) (allowed : Bool) → asked w s ≡ Some call → client_in w s ≡ c
    → doing_after w s ≡ None → s ≢ Join → Went w s (unwrap_or (direct w c allowed call) (NotNow, w))
direct_went w c call s allowed is mine none other =
    elim (is_idle w c && allowed) as (λ b. (is_idle w c && allowed) ≡ b
    → Went w s (unwrap_or (cond b (Some (replied w c call)) None) (NotNow, w))) [
      | true ↦
          λ e. by (idle e) (is_full w) refl
      | false ↦ λ e. refl
    ] refl
  where
    idle : (is_idle w c && allowed) ≡ true → doing_of w c ≡ None
    idle e = none_walks (get w.walks c)
        (not_true (has w.walks c) (both (has (shown w).clients c) (not (has w.walks c))
        (both (is_idle w c) allowed e).0).1)

    grown : (v : World) (added : List Entry) → Grown w v c None added
        → Grown w v (client_in w s) (doing_after w s) added
    grown v added g = subst (λ (p : ℕ × Option Call). Grown w v p.0 p.1 added) (λ i. (sym mine i, sym none i)) g

    by : doing_of w c ≡ None → (b : Bool) → is_full w ≡ b
        → Went w s (Replied (either w c call b).0, (either w c call b).1)
    by still true e = inl (e, grown w [] (plain w c None w.history [] (sym (append-nil w.history)) still))
    by still false e =
        let reply = reply_to w c call in
        inr (inr (
          e,
          call,
          is,
          ap (λ n. reply_to w n call) (sym mine),
          subst (λ n. Grown w (with_entry w c call reply) (client_in w s) (doing_after w s)
              (entry_of n call reply ∷ [])) (sym mine)
              (grown (with_entry w c call reply) (entry_of c call reply ∷ [])
              (plain w c None (w.history ++ entry_of c call reply ∷ []) (entry_of c call reply ∷ []) refl still)),
          other,
        ))

join_went : (w : World) → Went w Join (join w)
join_went w = by (is_full w) refl
  where
    on_reply : (reply : Reply) → is_full w ≡ false → reply ≡ reply_to w (next_number w) Connect
        → Went w Join (joined w reply (with_entry w (next_number w) Connect reply))
    on_reply Done e is = (
      e,
      refl,
      is,
      plain w (next_number w) (doing_of w (next_number w)) (w.history ++ entry_of (next_number w) Connect Done ∷ [])
          (entry_of (next_number w) Connect Done ∷ []) refl refl,
    )
    on_reply (Opened k) e is = inr (inl (refl, refl))
    on_reply (Bytes k) e is = inr (inl (refl, refl))
    on_reply (Wrote k) e is = inr (inl (refl, refl))
    on_reply (Listed k) e is = inr (inl (refl, refl))
    on_reply (Found k) e is = inr (inl (refl, refl))
    on_reply (Created k) e is = inr (inl (refl, refl))
    on_reply (Spawned k) e is = inr (inl (refl, refl))
    on_reply (Refused k) e is = inr (inl (refl, refl))
    on_reply (Denied k) e is = inr (inl (refl, refl))

    by : (b : Bool) → is_full w ≡ b
        → Went w Join (joined w (either w (next_number w) Connect b).0 (either w (next_number w) Connect b).1)
    by true e = inr (inl (refl, refl))
    by false e = on_reply (reply_to w (next_number w) Connect) e refl

begin_went : (w : World) (c : ℕ) (call : Call) → Went w (Begin c call) (unwrap_or (begin w c call) (NotNow, w))
begin_went w c call =
    elim (is_idle w c && is_walked (client_of (shown w) c) call && (not (takes_gate call) || is_none w.gate)) as
    (λ b. Went w (Begin c call) (unwrap_or (cond b (Some (Begun, begun w c call)) None) (NotNow, w))) [
      | true ↦ record {
        came = sym (append-nil w.history);
        rules = refl;
        room = refl;
        limit = refl;
        others = put_other w.walks c _;
        mine = put_mine w.walks c _;
      }
      | false ↦ refl
    ]

pub went : (w : World) (s : Step) → Went w s (advance w s)
went w Join = join_went w
went w (Begin c call) = begin_went w c call
went w (Descend c) = of_walk w c (Descend c) descend (descend_went w c)
went w (Fork c) = of_walk w c (Fork c) fork (fork_went w c)
went w (Commit c) = of_walk w c (Commit c) commit (commit_went w c)
went w (Restart c) = of_walk w c (Restart c) restart (restart_went w c)
went w (FdCommit c call) = direct_went w c call (FdCommit c call) (is_on_descriptor (client_of (shown w) c) call) refl
    refl refl (λ e. cc e)
went w (ClientStep c call) = direct_went w c call (ClientStep c call) (is_alone (client_of (shown w) c) call) refl refl
    refl (λ e. cc e)

-- no call is answered so where there is room
pub never_full : (s : State) (number : ℕ) (call : Call) (fresh : ℕ) → Refused HistoryFull ≡ (step s number call fresh).0
    → ⊥
never_full s number call fresh e =
    by (answered s number call fresh (Refused HistoryFull) (λ f. absurd (f HistoryFull refl)) (λ _. e))
  where
    by : ((3 ≤ errno_number HistoryFull) × (errno_number HistoryFull ≤ 20)) ⊎ (HistoryFull ≡ NoMemory) → ⊥
    by (inl b) = omega (arith, b.1)
    by (inr f) = cc f
