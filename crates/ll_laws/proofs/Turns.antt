-- What each step that is enabled makes of a world. What holds of a world and is kept by these holds after every list of
-- steps.
use Rattle.std.specs.Prelude.{◌≡◌, ℕ, Bool, true, false, cond, not, ◌&&◌, ◌||◌, ◌==◌, List, [], ◌∷◌, Option, Some, None}
use Rattle.std.specs.Prelude.{is_none, unwrap_or, option_map, option_and_then, refl}
use Rattle.ll_rights.specs.declared.errno.Errno.TheVariants.{HistoryFull}
use Rattle.ll_rights.specs.Map.{get}
use Rattle.ll_seq.specs.declared.call.Call.{Call}
use Rattle.ll_seq.specs.declared.call.Call.TheVariants.{Make, Open, Read, Write, Ftruncate, Close, Truncate, ReadDir}
use Rattle.ll_seq.specs.declared.call.Call.TheVariants.{Stat, Exec, Unlink, Rmdir, Rename, RenameNoreplace, Exchange}
use Rattle.ll_seq.specs.declared.call.Call.TheVariants.{Link, Ruleset, Allow, Confine, Spawn, Connect}
use Rattle.ll_seq.specs.declared.client.ClientRecord.{ClientRecord}
use Rattle.ll_seq.specs.declared.reply.Reply.{Reply}
use Rattle.ll_seq.specs.declared.reply.Reply.TheVariants.{Done, Opened, Bytes, Wrote, Listed, Found, Created, Spawned}
use Rattle.ll_seq.specs.declared.reply.Reply.TheVariants.{Refused, Denied}
use Rattle.ll_seq.specs.State.{root}
use Rattle.ll_seq.specs.Step.{client_of}
use Rattle.ll_seq.specs.History.{is_connect}
use Rattle.ll_laws.specs.Walk.{Walk, Leg, Position, further, turn, forked, is_above}
use Rattle.ll_laws.specs.World.{World, Outcome, NotNow, Begun, Stands, Forked, Restarted, shown, domain_of, is_idle}
use Rattle.ll_laws.specs.World.{is_walked, is_on_descriptor, is_alone, is_marked, is_full, may_commit, takes_gate}
use Rattle.ll_laws.specs.World.{next_number, reply_to, with_walk, without_walk, moved_by, joined, begin, enter, stand}
use Rattle.ll_laws.specs.World.{descend, fork, commit, restart, direct, advance, world_after}
use Rattle.ll_laws.specs.declared.step.Step.{Step}
use Rattle.ll_laws.specs.declared.step.Step.TheVariants.{Join, Begin, Descend, Fork, Commit, Restart, FdCommit}
use Rattle.ll_laws.specs.declared.step.Step.TheVariants.{ClientStep}
use Rattle.ll_laws.proofs.Shapes.{begun, committed, entered, join, may_hold, replied, restarted, stood, with_entry}
use Rattle.ll_laws.proofs.Shapes.{with_stale}
use Rattle.ll_laws.proofs.Tests.{both, not_true}

-- the world after a commit that is answered so
abbrev pub ended : World → ℕ → Walk → Reply → World
ended w number walk reply = with_stale (moved_by (shown w) walk.call reply)
    (with_entry (without_walk w number) number walk.call reply)

-- every step keeps it
pub record Keeps (P : World → Type 0) : Type 0 where
  pub begins : (w : World) (number : ℕ) (call : Call) → P w → is_idle w number ≡ true
      → is_walked (client_of (shown w) number) call ≡ true → (not (takes_gate call) || is_none w.gate) ≡ true
      → P (begun w number call)
  pub enters : (w : World) (number : ℕ) (walk : Walk) → P w → get w.walks number ≡ Some walk → walk.stale ≡ false
      → is_above walk.at ≡ true → is_marked w root ≡ false → (not (walk.starts == 4) || may_hold w number) ≡ true
      → P (entered w number walk)
  pub stands : (w : World) (number : ℕ) (walk : Walk) (leg : Leg) → P w → get w.walks number ≡ Some walk
      → walk.stale ≡ false → is_above walk.at ≡ false
      → option_and_then (further (shown w) (domain_of w number)) (turn walk.at) ≡ Some leg
      → is_marked w leg.here ≡ false
      → P (stood w number walk leg)
  pub forks : (w : World) (number : ℕ) (walk : Walk) (at : Position) → P w → get w.walks number ≡ Some walk
      → walk.stale ≡ false → forked walk.call walk.at ≡ Some at → P (with_walk w number (record walk { at = at }))
  pub restarts : (w : World) (number : ℕ) (walk : Walk) → P w → get w.walks number ≡ Some walk → walk.stale ≡ true
      → P (restarted w number walk)
  -- a commit where the history is full, and any other
  pub gives_up : (w : World) (number : ℕ) (walk : Walk) → P w → get w.walks number ≡ Some walk
      → P (with_stale [] (without_walk w number))
  pub commits : (w : World) (number : ℕ) (walk : Walk) → P w → get w.walks number ≡ Some walk
      → may_commit w number walk ≡ true → is_full w ≡ false → P (ended w number walk (reply_to w number walk.call))
  -- a call without a walk
  pub calls : (w : World) (number : ℕ) (call : Call) → P w → is_idle w number ≡ true → is_connect call ≡ false
      → is_walked (client_of (shown w) number) call ≡ false → is_full w ≡ false
      → P (with_entry w number call (reply_to w number call))
  pub joins : (w : World) → P w → is_full w ≡ false → reply_to w (next_number w) Connect ≡ Done
      → P (with_entry w (next_number w) Connect Done)

-- a call on a descriptor names no path, and is no connect
on_descriptor : (c : ClientRecord) (call : Call) → is_on_descriptor c call ≡ true → (is_connect call ≡ false)
    × (is_walked c call ≡ false)
on_descriptor c (Read fd offset count) e = (refl, refl)
on_descriptor c (Write fd offset bytes) e = (refl, refl)
on_descriptor c (Ftruncate fd size) e = (refl, refl)
on_descriptor c (Close fd) e = (refl, refl)
on_descriptor c (Make kind t) e = absurd (cc e)
on_descriptor c (Open mode t) e = absurd (cc e)
on_descriptor c (Truncate t size) e = absurd (cc e)
on_descriptor c (ReadDir t) e = absurd (cc e)
on_descriptor c (Stat t) e = absurd (cc e)
on_descriptor c (Exec t) e = absurd (cc e)
on_descriptor c (Unlink t) e = absurd (cc e)
on_descriptor c (Rmdir t) e = absurd (cc e)
on_descriptor c (Rename o n) e = absurd (cc e)
on_descriptor c (RenameNoreplace o n) e = absurd (cc e)
on_descriptor c (Exchange o n) e = absurd (cc e)
on_descriptor c (Link o n) e = absurd (cc e)
on_descriptor c (Ruleset rights) e = absurd (cc e)
on_descriptor c (Allow rs t rights) e = absurd (cc e)
on_descriptor c (Confine rs) e = absurd (cc e)
on_descriptor c Spawn e = absurd (cc e)
on_descriptor c Connect e = absurd (cc e)

alone : (c : ClientRecord) (call : Call) → is_alone c call ≡ true → (is_connect call ≡ false)
    × (is_walked c call ≡ false)
alone c call e =
    let w = both (not (is_connect call) && not (is_walked c call)) (not (is_on_descriptor c call)) e in
    let v = both (not (is_connect call)) (not (is_walked c call)) w.0 in
    (not_true _ v.0, not_true _ v.1)

module _ (P : World → Type 0) (keeps : Keeps P) where
  -- what a step is taken to
  abbrev After : World → Option (Outcome × World) → Type 0
  After w o = P (unwrap_or o (NotNow, w)).1

  where_enabled : (b : Bool) (w : World) (r : Outcome × World) → P w → (b ≡ true → P r.1)
      → After w (cond b (Some r) None)
  where_enabled true w r p f = f refl
  where_enabled false w r p f = p

  of_walk : (w : World) (number : ℕ) (f : Walk → Option (Outcome × World)) → P w
      → ((walk : Walk) → get w.walks number ≡ Some walk → After w (f walk))
      → After w (option_and_then f (get w.walks number))
  of_walk w number f p h = by (get w.walks number) refl
    where
      by : (o : Option Walk) → get w.walks number ≡ o → After w (option_and_then f o)
      by None e = p
      by (Some walk) e = h walk e

  -- of a walk that isn't stale
  unless_stale : (w : World) (walk : Walk) (o : Option (Outcome × World)) → P w → (walk.stale ≡ false → After w o)
      → After w (cond walk.stale None o)
  unless_stale w walk o p f = elim walk.stale as (λ b. walk.stale ≡ b → After w (cond b None o))
      [ true ↦ λ e. p | false ↦ f ] refl

  begin_kept : (w : World) (number : ℕ) (call : Call) → P w → After w (begin w number call)
  begin_kept w number call p = where_enabled _ w (Begun, begun w number call) p (λ e.
      let x = both (is_idle w number && is_walked (client_of (shown w) number) call)
      (not (takes_gate call) || is_none w.gate) e in
      let y = both (is_idle w number) (is_walked (client_of (shown w) number) call) x.0 in
      keeps.begins w number call p y.0 y.1 x.1)

  stand_kept : (w : World) (number : ℕ) (walk : Walk) → P w → get w.walks number ≡ Some walk → walk.stale ≡ false
      → is_above walk.at ≡ false → (o : Option Leg)
      → option_and_then (further (shown w) (domain_of w number)) (turn walk.at) ≡ o
      → After w (option_and_then (stand w number walk) o)
  stand_kept w number walk p is fresh low None e = p
  stand_kept w number walk p is fresh low (Some leg) e =
      where_enabled (not (is_marked w leg.here)) w (Stands leg.here, stood w number walk leg) p
      (λ b. keeps.stands w number walk leg p is fresh low e (not_true _ b))

  descend_kept : (w : World) (number : ℕ) (walk : Walk) → P w → get w.walks number ≡ Some walk
      → After w (descend w number walk)
  descend_kept w number walk p is = unless_stale w walk _ p (λ fresh.
      elim (is_above walk.at) as (λ b. is_above walk.at ≡ b
      → After w (cond b (enter w number walk)
      (option_and_then (stand w number walk)
      (option_and_then (further (shown w) (domain_of w number)) (turn walk.at))))) [
        | true ↦ λ high. where_enabled _ w (Stands root, entered w number walk) p (λ b.
            let x = both (not (is_marked w root)) (not (walk.starts == 4) || may_hold w number) b in
            keeps.enters w number walk p is fresh high (not_true _ x.0) x.1)
        | false ↦ λ low. stand_kept w number walk p is fresh low _ refl
      ] refl)

  fork_kept : (w : World) (number : ℕ) (walk : Walk) → P w → get w.walks number ≡ Some walk
      → After w (fork w number walk)
  fork_kept w number walk p is = unless_stale w walk _ p (λ fresh. by fresh (forked walk.call walk.at) refl)
    where
      by : walk.stale ≡ false → (o : Option Position) → forked walk.call walk.at ≡ o
          → After w (option_map (λ at. (Forked, with_walk w number (record walk { at = at }))) o)
      by fresh None e = p
      by fresh (Some at) e = keeps.forks w number walk at p is fresh e

  commit_kept : (w : World) (number : ℕ) (walk : Walk) → P w → get w.walks number ≡ Some walk
      → After w (commit w number walk)
  commit_kept w number walk p is =
      where_enabled (may_commit w number walk) w (committed w number walk) p (λ may. by may (is_full w) refl)
    where
      either : Bool → Reply × World
      either b = cond b (Refused HistoryFull, without_walk w number) (
        reply_to w number walk.call,
        with_entry (without_walk w number) number walk.call (reply_to w number walk.call),
      )

      by : may_commit w number walk ≡ true → (b : Bool) → is_full w ≡ b
          → P (with_stale (moved_by (shown w) walk.call (either b).0) (either b).1)
      by may true e = keeps.gives_up w number walk p is
      by may false e = keeps.commits w number walk p is may e

  restart_kept : (w : World) (number : ℕ) (walk : Walk) → P w → get w.walks number ≡ Some walk
      → After w (restart w number walk)
  restart_kept w number walk p is =
      where_enabled walk.stale w (Restarted, restarted w number walk) p
      (λ stale. keeps.restarts w number walk p is stale)

  direct_kept : (w : World) (number : ℕ) (allowed : Bool) (call : Call) → P w
      → (allowed ≡ true → (is_connect call ≡ false) × (is_walked (client_of (shown w) number) call ≡ false))
      → After w (direct w number allowed call)
  direct_kept w number allowed call p f = where_enabled (is_idle w number && allowed) w (replied w number call) p (λ b.
      let x = both (is_idle w number) allowed b in
      by x.0 (f x.1) (is_full w) refl)
    where
      either : Bool → Reply × World
      either b = cond b (Refused HistoryFull, w)
          (reply_to w number call, with_entry w number call (reply_to w number call))

      by : is_idle w number ≡ true → (is_connect call ≡ false) × (is_walked (client_of (shown w) number) call ≡ false)
          → (b : Bool) → is_full w ≡ b → P (either b).1
      by idle x true e = p
      by idle x false e = keeps.calls w number call p idle x.0 x.1 e

  join_kept : (w : World) → P w → P (join w).1
  join_kept w p = by (is_full w) refl
    where
      either : Bool → Reply × World
      either b = cond b (Refused HistoryFull, w) (
        reply_to w (next_number w) Connect,
        with_entry w (next_number w) Connect (reply_to w (next_number w) Connect),
      )

      on : (r : Reply) → is_full w ≡ false → reply_to w (next_number w) Connect ≡ r
          → P (joined w r (with_entry w (next_number w) Connect r)).1
      on Done e is = keeps.joins w p e is
      on (Opened k) e is = p
      on (Bytes k) e is = p
      on (Wrote k) e is = p
      on (Listed k) e is = p
      on (Found k) e is = p
      on (Created k) e is = p
      on (Spawned k) e is = p
      on (Refused k) e is = p
      on (Denied k) e is = p

      by : (b : Bool) → is_full w ≡ b → P (joined w (either b).0 (either b).1).1
      by true e = p
      by false e = on (reply_to w (next_number w) Connect) e refl

  pub advance_kept : (w : World) (step' : Step) → P w → P (advance w step').1
  advance_kept w Join p = join_kept w p
  advance_kept w (Begin number call) p = begin_kept w number call p
  advance_kept w (Descend number) p = of_walk w number (descend w number) p (λ walk is. descend_kept w number walk p is)
  advance_kept w (Fork number) p = of_walk w number (fork w number) p (λ walk is. fork_kept w number walk p is)
  advance_kept w (Commit number) p = of_walk w number (commit w number) p (λ walk is. commit_kept w number walk p is)
  advance_kept w (Restart number) p = of_walk w number (restart w number) p (λ walk is. restart_kept w number walk p is)
  advance_kept w (FdCommit number call) p =
      direct_kept w number (is_on_descriptor (client_of (shown w) number) call) call p
      (on_descriptor (client_of (shown w) number) call)
  advance_kept w (ClientStep number call) p =
      direct_kept w number (is_alone (client_of (shown w) number) call) call p (alone (client_of (shown w) number) call)

  pub steps_kept : (w : World) (steps : List Step) → P w → P (world_after w steps)
  steps_kept w [] p = p
  steps_kept w (x ∷ steps) p = steps_kept (advance w x).1 steps (advance_kept w x p)
