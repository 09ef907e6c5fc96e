-- Which outcomes a walk's steps have, and what leads to its answer.
use Rattle.std.specs.Prelude.{◌≡◌, ◌≢◌, ℕ, Bool, true, false, cond, not, ◌&&◌, ◌||◌, ◌==◌, Option, Some, None}
use Rattle.std.specs.Prelude.{unwrap_or, option_map, option_and_then, refl}
use Rattle.std.proofs.Common.{sym, ap, subst, ◌∙◌, inl, inr}
use Rattle.ll_rights.specs.Map.{get}
use Rattle.ll_seq.specs.declared.call.Call.{Call}
use Rattle.ll_seq.specs.State.{root}
use Rattle.ll_laws.specs.declared.step.Step.{Step}
use Rattle.ll_laws.specs.declared.step.Step.TheVariants.{Begin, Descend, Fork, Restart, FdCommit, ClientStep}
use Rattle.ll_laws.specs.Walk.{Walk, Leg, Position, further, turn, forked, is_above}
use Rattle.ll_laws.specs.World as world
use Rattle.ll_laws.specs.World.{World, shown, domain_of, is_marked, with_walk, enter, stand, descend, fork, restart}
use Rattle.ll_laws.specs.World.{advance}
use Rattle.ll_laws.proofs.Shapes.{entered, may_hold, restarted, stood, walking}
use Rattle.ll_steps.specs.declared.report.Report.{Report}
use Rattle.ll_steps.specs.declared.report.Report.TheVariants as report
use Rattle.ll_steps.specs.CallOutcomes.{Waits, Leads, Calls, walks}
use Rattle.ll_steps.specs.Makes.{Makes}
use Rattle.ll_steps.proofs.AddedEntries.{unchanged}

abbrev may_fork : world.Outcome → Bool
may_fork world.NotNow = true
may_fork world.Forked = true
may_fork _ = false

abbrev may_stand : world.Outcome → Bool
may_stand world.NotNow = true
may_stand (world.Stands inode) = true
may_stand _ = false

abbrev may_restart : world.Outcome → Bool
may_restart world.NotNow = true
may_restart world.Restarted = true
may_restart _ = false

-- of a step that may be none
abbrev outcome_or : World → Option (world.Outcome × World) → world.Outcome
outcome_or w o = let r : world.Outcome × World = unwrap_or o (world.NotNow, w) in r.0

of_walk : (w : World) (client : ℕ) (test : world.Outcome → Bool) (f : World → ℕ → Walk → Option (world.Outcome × World))
    → test world.NotNow ≡ true
    → ((walk : Walk) → test (outcome_or w (f w client walk)) ≡ true) → test (outcome_or w (walking w client f)) ≡ true
of_walk w client test f none each = by (get w.walks client)
  where
    by : (o : Option Walk) → test (outcome_or w (option_and_then (f w client) o)) ≡ true
    by None = none
    by (Some walk) = each walk

fork_kind : (w : World) (client : ℕ) → may_fork (advance w (Fork client)).0 ≡ true
fork_kind w client = of_walk w client may_fork fork refl (λ walk. by walk walk.stale (forked walk.call walk.at))
  where
    by : (walk : Walk) (a : Bool) (o : Option Position)
        → may_fork (outcome_or w (cond a None
        (option_map (λ at. (world.Forked, with_walk w client (record walk { at = at }))) o))) ≡ true
    by walk true o = refl
    by walk false None = refl
    by walk false (Some at) = refl

descend_kind : (w : World) (client : ℕ) → may_stand (advance w (Descend client)).0 ≡ true
descend_kind w client = of_walk w client may_stand descend refl (λ walk. by walk walk.stale (is_above walk.at))
  where
    enters : (walk : Walk) (b : Bool)
        → may_stand (outcome_or w (cond b (Some (world.Stands root, entered w client walk)) None)) ≡ true
    enters walk true = refl
    enters walk false = refl

    stands : (walk : Walk) (leg : Leg) (b : Bool)
        → may_stand (outcome_or w (cond b (Some (world.Stands leg.here, stood w client walk leg)) None)) ≡ true
    stands walk leg true = refl
    stands walk leg false = refl

    below : (walk : Walk) (o : Option Leg) → may_stand (outcome_or w (option_and_then (stand w client walk) o)) ≡ true
    below walk None = refl
    below walk (Some leg) = stands walk leg (not (is_marked w leg.here))

    by : (walk : Walk) (a b : Bool)
        → may_stand (outcome_or w (cond a None
        (cond b (enter w client walk)
        (option_and_then (stand w client walk)
        (option_and_then (further (shown w) (domain_of w client)) (turn walk.at)))))) ≡ true
    by walk true b = refl
    by walk false true = enters walk (not (is_marked w root) && (not (walk.starts == 4) || may_hold w client))
    by walk false false = below walk (option_and_then (further (shown w) (domain_of w client)) (turn walk.at))

restart_kind : (w : World) (client : ℕ) → may_restart (advance w (Restart client)).0 ≡ true
restart_kind w client = of_walk w client may_restart restart refl (λ walk. by walk walk.stale)
  where
    by : (walk : Walk) (b : Bool)
        → may_restart (outcome_or w (cond b (Some (world.Restarted, restarted w client walk)) None)) ≡ true
    by walk true = refl
    by walk false = refl

-- no such outcome
wrong : (test : world.Outcome → Bool) (p : world.Outcome × World) (q : world.Outcome) (v : World) → test p.0 ≡ true
    → p ≡ (q, v) → test q ≡ false → ⊥
wrong test p q v may is not_so = cc (sym may ∙ ap (λ (p : world.Outcome × World). test p.0) is ∙ not_so)

pub forks : (w v : World) (client : ℕ) (o : Report) → Makes w (Fork client) o v → o ≢ report.NotNow
    → advance w (Fork client) ≡ (world.Forked, v)
forks w v client report.NotNow m made = absurd (made refl)
forks w v client report.Begun m made = absurd (wrong may_fork _ world.Begun v (fork_kind w client) m refl)
forks w v client (report.Stands inode) m made =
    absurd (wrong may_fork _ (world.Stands inode) v (fork_kind w client) m refl)
forks w v client report.Forked m made = m
forks w v client report.Restarted m made = absurd (wrong may_fork _ world.Restarted v (fork_kind w client) m refl)
forks w v client (report.Joined number) m made =
    absurd (wrong may_fork _ (world.Joined number) v (fork_kind w client) m refl)
forks w v client (report.Replied k) m made =
    absurd (wrong may_fork _ (world.Replied m.1.reply) v (fork_kind w client) m.3 refl)
forks w v client (report.Refused errno) (inl m) made = absurd (wrong may_fork _ _ v (fork_kind w client) m.1 refl)
forks w v client (report.Refused errno) (inr m) made = absurd (cc m.1.is)

pub stands : (w v : World) (client : ℕ) (o : Report) → Makes w (Descend client) o v → o ≢ report.NotNow → (inode : ℕ)
    × (advance w (Descend client) ≡ (world.Stands inode, v))
stands w v client report.NotNow m made = absurd (made refl)
stands w v client report.Begun m made = absurd (wrong may_stand _ world.Begun v (descend_kind w client) m refl)
stands w v client (report.Stands inode) m made = (inode, m)
stands w v client report.Forked m made = absurd (wrong may_stand _ world.Forked v (descend_kind w client) m refl)
stands w v client report.Restarted m made = absurd (wrong may_stand _ world.Restarted v (descend_kind w client) m refl)
stands w v client (report.Joined number) m made =
    absurd (wrong may_stand _ (world.Joined number) v (descend_kind w client) m refl)
stands w v client (report.Replied k) m made =
    absurd (wrong may_stand _ (world.Replied m.1.reply) v (descend_kind w client) m.3 refl)
stands w v client (report.Refused errno) (inl m) made = absurd (wrong may_stand _ _ v (descend_kind w client) m.1 refl)
stands w v client (report.Refused errno) (inr m) made = absurd (cc m.1.is)

pub restarts : (w v : World) (client : ℕ) (o : Report) → Makes w (Restart client) o v → o ≢ report.NotNow
    → advance w (Restart client) ≡ (world.Restarted, v)
restarts w v client report.NotNow m made = absurd (made refl)
restarts w v client report.Begun m made = absurd (wrong may_restart _ world.Begun v (restart_kind w client) m refl)
restarts w v client (report.Stands inode) m made =
    absurd (wrong may_restart _ (world.Stands inode) v (restart_kind w client) m refl)
restarts w v client report.Forked m made = absurd (wrong may_restart _ world.Forked v (restart_kind w client) m refl)
restarts w v client report.Restarted m made = m
restarts w v client (report.Joined number) m made =
    absurd (wrong may_restart _ (world.Joined number) v (restart_kind w client) m refl)
restarts w v client (report.Replied k) m made =
    absurd (wrong may_restart _ (world.Replied m.1.reply) v (restart_kind w client) m.3 refl)
restarts w v client (report.Refused errno) (inl m) made =
    absurd (wrong may_restart _ _ v (restart_kind w client) m.1 refl)
restarts w v client (report.Refused errno) (inr m) made = absurd (cc m.1.is)

-- ---- a step that waits

pub waits_so : (w v : World) (step' : Step) (o : Report) → Makes w step' o v → o ≡ report.NotNow → Waits w step'
    × (v ≡ w)
waits_so w v step' o m e =
    let a : advance w step' ≡ (world.NotNow, v) = subst (λ (q : Report). Makes w step' q v) e m in
    let same : v ≡ w = unchanged w v step' a in
    (subst (λ (u : World). advance w step' ≡ (world.NotNow, u)) same a, same)

-- ---- all steps of a call, which came back where it was on no descriptor

module _ (w : World) (client : ℕ) (call : Call) (on_file_waits : Waits w (FdCommit client call)) (w1 : World)
    (call1 : Call)
    (same : w1 ≡ w) (back : call1 ≡ call) where
  waits_there : Waits w1 (FdCommit client call1)
  waits_there =
      subst (λ (p : World × Call). Waits p.0 (FdCommit client p.1)) (λ i. (sym same i, sym back i)) on_file_waits

  calls_here : (v : World) (o : Report) → Calls w1 client call1 o v → Calls w client call o v
  calls_here v o = subst (λ (p : World × Call). Calls p.0 client p.1 o v) (λ i. (same i, back i))

  pub calls_stop : (v : World) (o : Report) → (Waits w1 (FdCommit client call1) → Calls w1 client call1 o v)
      → Calls w client call o v
  calls_stop v o stops = calls_here v o (stops waits_there)

  pub calls_walk : (v v' : World) (o : Report) → Waits w1 (ClientStep client call1)
      → Makes w1 (Begin client call1) report.Begun v → Leads client v o v' → Calls w client call o v'
  calls_walk v v' o alone_waits begins leads =
      calls_here v' o (walks v v' o waits_there alone_waits begins leads)
