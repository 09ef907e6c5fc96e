-- A step for which a reason holds isn't enabled, and where none is found the step is.
use Rattle.std.specs.Prelude.{◌≡◌, ◌≢◌, ℕ, Bool, true, false, cond, not, ◌&&◌, ◌||◌, ◌==◌, Option}
use Rattle.std.specs.Prelude.{Some, None, IsSome, is_none, is_some, option_and_then, option_map, unwrap_or, refl}
use Rattle.std.specs.List.{list_any}
use Rattle.std.specs.Option.{option_map_or}
use Rattle.std.proofs.Common.{sym, ap, ◌∙◌}
use Rattle.std.proofs.lemmas.Bool.{eqb-true, eq-eqb}
use Rattle.ll_rights.specs.Map.{get, has}
use Rattle.ll_path.specs.Path.{is_root}
use Rattle.ll_seq.specs.declared.call.Call.{Call}
use Rattle.ll_seq.specs.State.{root}
use Rattle.ll_seq.specs.Step.{client_of}
use Rattle.ll_laws.proofs.Chains.{same_Some}
use Rattle.ll_laws.proofs.Shapes.{begun, committed, entered, leg_is_blocked, may_hold, replied, restarted, stood}
use Rattle.ll_laws.proofs.Tests as tests
use Rattle.ll_laws.proofs.Tests.{both, none_of}
use Rattle.ll_laws.proofs.WalkMaps.{found}
use Rattle.ll_laws.specs.declared.step.Step.{Step}
use Rattle.ll_laws.specs.declared.step.Step.TheVariants.{Join, Begin, Descend, Fork, Commit, Restart, FdCommit}
use Rattle.ll_laws.specs.declared.step.Step.TheVariants.{ClientStep}
use Rattle.ll_laws.specs.Walk.{Walk, Leg, Position, Above, Down, Split, at_ends, forked}
use Rattle.ll_laws.specs.Walk.{further, has_two_paths, is_above, is_in, marks}
use Rattle.ll_laws.specs.Walk.{turn}
use Rattle.ll_laws.specs.World.{World, Outcome, NotNow, Begun, Stands, Forked, Restarted, enabled}
use Rattle.ll_laws.specs.World.{commit, descend, domain_of, enter, fork, is_alone, is_idle, is_marked}
use Rattle.ll_laws.specs.World.{is_marked_by_other, is_on_descriptor, is_walked, last_nodes, may_commit, restart}
use Rattle.ll_laws.specs.World.{shown, stand, takes_gate, with_walk}
use Rattle.ll_journal.proofs.Advances.{commit_none, commit_not_now, descend_none, descend_stale, direct_not_now}
use Rattle.ll_journal.proofs.Advances.{may_commit_marked, may_commit_stale}
use Rattle.ll_steps.specs.CallOutcomes.{Waits}
use Rattle.ll_steps.specs.Unmet.{IsMarkedBy, IsUnmet, IsUnmetBegin, IsUnmetCall, IsUnmetCommit, IsUnmetDescent}
use Rattle.ll_steps.specs.Unmet.{IsUnmetFork, IsUnmetRestart, IsUnmetWalk, IsWhyNot}
use Rattle.ll_steps.specs.declared.unmet.Unmet.{Unmet}
use Rattle.ll_steps.specs.declared.unmet.Unmet.TheVariants as unmet
use Rattle.ll_steps.proofs.NextSteps.{at_its_ends, blocked_leg, commit_away, descend_away, ended_leg, fork_away}
use Rattle.ll_steps.proofs.NextSteps.{fork_none, fork_stale, has_more, on_the_way, past, restart_fresh, restart_none}
use Rattle.ll_steps.proofs.WalkMakes.{turns}

and_false : (b : Bool) → (b && false) ≡ false
and_false true = refl
and_false false = refl

never : (a b : Bool) → ((a && false) && b) ≡ false
never true b = refl
never false b = refl

-- ---- a call

module _ (w : World) (number : ℕ) where
  abbrev done_or_not : Option (Outcome × World) → Outcome × World
  done_or_not o = unwrap_or o (NotNow, w)

  call_kept : (call : Call) (suits : Bool) (reason : Unmet) → IsUnmetCall w number call suits reason
      → (is_idle w number && suits) ≡ false
  call_kept call suits unmet.Nobody u = ap (λ b. (b && not (has w.walks number)) && suits) u
  call_kept call suits unmet.UnderWay u =
      ap (λ b. (has (shown w).clients number && not b) && suits) u ∙ never (has (shown w).clients number) suits
  call_kept call suits other u = ap (λ b. is_idle w number && b) u.0 ∙ and_false (is_idle w number)

  -- nobody holds the gate if the call takes it
  abbrev gate_free : Call → Bool
  gate_free call = not (takes_gate call) || is_none w.gate

  begin_kept : (call : Call) (reason : Unmet) → IsUnmetBegin w number call reason
      → ((is_idle w number && is_walked (client_of (shown w) number) call) && gate_free call) ≡ false
  begin_kept call (unmet.Gate holder) u =
      (λ i. (is_idle w number && is_walked (client_of (shown w) number) call) && (not (u.0 i) || is_none (u.1 i)))
      ∙ and_false (is_idle w number && is_walked (client_of (shown w) number) call)
  begin_kept call other u = ap (λ b. b && gate_free call)
      (call_kept call (is_walked (client_of (shown w) number) call) other u)

  begin_waits : (call : Call)
      → ((is_idle w number && is_walked (client_of (shown w) number) call) && gate_free call) ≡ false
      → Waits w (Begin number call)
  begin_waits call e = ap (λ b. done_or_not (cond b (Some (Begun, begun w number call)) None)) e

-- ---- where a walk is

-- at its fork
pub fork_there : (call : Call) (at : Position) → is_some (forked call at) ≡ true → (trunk : Leg) × (at ≡ Down trunk)
    × (is_root trunk.ahead ≡ true) × (has_two_paths call ≡ true)
fork_there call Above e = absurd (cc e)
fork_there call (Down trunk) e = by (has_two_paths call) refl (is_root trunk.ahead) refl e
  where
    by : (a : Bool) → has_two_paths call ≡ a → (b : Bool) → is_root trunk.ahead ≡ b
        → is_some (past call trunk (a && b)) ≡ true
        → (leg : Leg) × (Down trunk ≡ Down leg) × (is_root leg.ahead ≡ true) × (has_two_paths call ≡ true)
    by true t true r f = (trunk, refl, r, t)
    by true t false r f = absurd (cc f)
    by false t b r f = absurd (cc f)
fork_there call (Split trunk old new) e = absurd (cc e)

-- with one path there is no fork
one_path : (call : Call) (at : Position) → has_two_paths call ≡ false → forked call at ≡ None
one_path call Above e = refl
one_path call (Down trunk) e = ap (λ b. past call trunk (b && is_root trunk.ahead)) e
one_path call (Split trunk old new) e = refl

-- a leg is in turn at the ends
ended_turn : (call : Call) (at : Position) → at_ends call at ≡ true → (leg : Leg) × (turn at ≡ Some leg)
ended_turn call Above e = absurd (cc e)
ended_turn call (Down trunk) e = (trunk, refl)
ended_turn call (Split trunk old new) e = (cond (is_root old.ahead) new old, refl)

some_leg : (o : Option Leg) → IsSome o → (leg : Leg) × (o ≡ Some leg)
some_leg None h = absurd (cc h)
some_leg (Some leg) h = (leg, refl)

-- ---- a walk's steps

module _ (w : World) (number : ℕ) (walk : Walk) (is : get w.walks number ≡ Some walk) where
  abbrev answer : Option (Outcome × World) → Outcome × World
  answer o = unwrap_or o (NotNow, w)

  -- below the root
  abbrev lower : Option Leg → Option (Outcome × World)
  lower o = option_and_then (stand w number walk) o

  abbrev next_leg : Option Leg
  next_leg = option_and_then (further (shown w) (domain_of w number)) (turn walk.at)

  descent_none : cond (is_above walk.at) (enter w number walk) (lower next_leg) ≡ None → Waits w (Descend number)
  descent_none e = ap (λ o. answer (option_and_then (descend w number) o)) is
      ∙ ap (λ o. answer (cond walk.stale None o)) e ∙ either walk.stale
    where
      either : (b : Bool) → answer (cond b None None) ≡ (NotNow, w)
      either true = refl
      either false = refl

  descent_fresh : (walk.stale ≡ false → Waits w (Descend number)) → Waits w (Descend number)
  descent_fresh goes = elim walk.stale as (λ b. walk.stale ≡ b → Waits w (Descend number))
      [ true ↦ descend_stale w number walk is | false ↦ goes ] refl

  marked_next : (inode : ℕ) → is_marked w inode ≡ true → (above : Bool) (o : Option Leg)
      → cond above (Some root) (option_map (λ (leg : Leg). leg.here) o) ≡ Some inode
      → cond above (enter w number walk) (lower o) ≡ None
  marked_next inode m true o e =
      ap (λ b. cond (not b && (not (walk.starts == 4) || may_hold w number))
      (Some (Stands root, entered w number walk)) None)
      (ap (is_marked w) (same_Some root inode e) ∙ m)
  marked_next inode m false None e = absurd (cc e)
  marked_next inode m false (Some leg) e =
      ap (λ b. cond (not b) (Some (Stands leg.here, stood w number walk leg)) None)
      (ap (is_marked w) (same_Some leg.here inode e) ∙ m)

  marker_marks : (inode client : ℕ) → IsMarkedBy w inode client → is_marked w inode ≡ true
  marker_marks inode client u = found w.walks (λ (e : ℕ × Walk). marks e.1 inode) client u.0 u.1 u.2

  gate_held : (holder : ℕ) → walk.starts ≡ 4 → w.gate ≡ Some holder → holder ≢ number
      → enter w number walk ≡ None
  gate_held holder last held other =
      (λ i. cond (not (is_marked w root) && (not (eq-eqb walk.starts 4 last i) || may_not i))
      (Some (Stands root, entered w number walk)) None)
      ∙ ap (λ b. cond b (Some (Stands root, entered w number walk)) None) (and_false (not (is_marked w root)))
    where
      may_not : may_hold w number ≡ false
      may_not = ap (λ (o : Option ℕ). option_map_or (λ h. h == number) o true) held
          ∙ tests.or_false (holder == number) (λ e. other (eqb-true holder number e))

  descent_kept : (reason : Unmet) → IsUnmetDescent w number walk reason → Waits w (Descend number)
  descent_kept unmet.Stale u = descend_stale w number walk is u
  descent_kept (unmet.Marked inode client) u =
      descent_none (marked_next inode (marker_marks inode client u.1) (is_above walk.at) next_leg u.0)
  descent_kept (unmet.Gate holder) u = descent_none
      (ap (λ (at : Position). cond (is_above at) (enter w number walk)
      (lower (option_and_then (further (shown w) (domain_of w number)) (turn at)))) u.0
      ∙ gate_held holder u.1 u.2 u.3)
  descent_kept unmet.Blocked u = descent_fresh
      (λ fresh. descend_away w number walk is fresh u.0 u.1
      (blocked_leg (shown w) (domain_of w number) u.0 u.2).1)
  descent_kept unmet.AtFork u =
      let down = fork_there walk.call walk.at u in
      descent_fresh (λ fresh. descend_away w number walk is fresh down.0 (ap turn down.1)
      (ended_leg (shown w) (domain_of w number) down.0 down.2).0)
  descent_kept unmet.AtEnd u =
      let leg = ended_turn walk.call walk.at u in
      descent_fresh (λ fresh. descend_away w number walk is fresh leg.0 leg.1
      (ended_leg (shown w) (domain_of w number) leg.0 (at_its_ends walk.call walk.at leg.0 leg.1 u).0).0)
  descent_kept other u = absurd u

  fork_kept : (reason : Unmet) → IsUnmetFork w number walk reason → Waits w (Fork number)
  fork_kept unmet.Stale u = fork_stale w number walk is u
  fork_kept unmet.OnePath u = fork_away w number walk is (one_path walk.call walk.at u)
  fork_kept unmet.Above u = fork_away w number walk is (ap (forked walk.call) u)
  fork_kept unmet.Ahead u =
      let next = some_leg (further (shown w) (domain_of w number) u.0) u.2 in
      let more = has_more (shown w) (domain_of w number) u.0 next.0 next.1 in
      fork_away w number walk is (on_the_way walk.call walk.at u.0 (ap turn u.1) more.0).1
  fork_kept unmet.Blocked u =
      let no = blocked_leg (shown w) (domain_of w number) u.0 u.2 in
      fork_away w number walk is (on_the_way walk.call walk.at u.0 (ap turn u.1) no.0).1
  fork_kept unmet.Forked u = fork_away w number walk is (ap (forked walk.call) u.3)
  fork_kept other u = absurd u

  -- a node that its call names has another's mark
  named_marked : (inode client : ℕ) → is_in (last_nodes (shown w) walk.call) inode ≡ true → client ≢ number
      → IsMarkedBy w inode client
      → list_any (is_marked_by_other w number) (last_nodes (shown w) walk.call) ≡ true
  named_marked inode client named other u =
      elim (list_any (is_marked_by_other w number) (last_nodes (shown w) walk.call)) as (λ b.
      list_any (is_marked_by_other w number) (last_nodes (shown w) walk.call) ≡ b → b ≡ true) [
        | true ↦ λ e. refl
        | false ↦ λ e. absurd (cc (sym (none_of (is_marked_by_other w number) (last_nodes (shown w) walk.call) inode e
            named) ∙ marked))
      ] refl
    where
      not_own : (client == number) ≡ false
      not_own = tests.or_false (client == number) (λ e. other (eqb-true client number e))

      marked : is_marked_by_other w number inode ≡ true
      marked = found w.walks (λ (e : ℕ × Walk). not (e.0 == number) && marks e.1 inode) client u.0 u.1
          ((λ i. not (not_own i) && marks u.0 inode) ∙ u.2)

  commit_kept : (reason : Unmet) → IsUnmetCommit w number walk reason → Waits w (Commit number)
  commit_kept unmet.Stale u = commit_not_now w number walk is (may_commit_stale w number walk is u)
  commit_kept unmet.Above u = commit_away w number walk is
      (ap (λ (at : Position). option_map_or (leg_is_blocked (shown w)) (turn at) false) u) (ap (at_ends walk.call) u)
  commit_kept unmet.Ahead u =
      let next = some_leg (further (shown w) (domain_of w number) u.0) u.2 in
      let more = has_more (shown w) (domain_of w number) u.0 next.0 next.1 in
      commit_away w number walk is (ap (λ o. option_map_or (leg_is_blocked (shown w)) o false) u.1 ∙ more.1)
      (on_the_way walk.call walk.at u.0 u.1 more.0).0
  commit_kept unmet.AtFork u =
      let down = fork_there walk.call walk.at u in
      commit_away w number walk is
      (ap (λ o. option_map_or (leg_is_blocked (shown w)) o false) (ap turn down.1)
      ∙ (ended_leg (shown w) (domain_of w number) down.0 down.2).1)
      (ap (at_ends walk.call) down.1 ∙ ap (λ b. not b && is_root down.0.ahead) down.3)
  commit_kept (unmet.Marked inode client) u =
      let leg = ended_turn walk.call walk.at u.0 in
      let ended = at_its_ends walk.call walk.at leg.0 leg.1 u.0 in
      commit_not_now w number walk is (may_commit_marked w number walk is
      (ap (λ o. option_map_or (leg_is_blocked (shown w)) o false) leg.1
      ∙ (ended_leg (shown w) (domain_of w number) leg.0 ended.0).1)
      (named_marked inode client u.1 u.2 u.3))
  commit_kept other u = absurd u

  restart_kept : (reason : Unmet) → IsUnmetRestart walk reason → Waits w (Restart number)
  restart_kept unmet.NotStale u = restart_fresh w number walk is u
  restart_kept other u = absurd u

-- ---- every step

walk_kept : (w : World) (number : ℕ) (step' : Step) (Has : Walk → Unmet → Type 0)
    → (get w.walks number ≡ None → Waits w step')
    → ((walk : Walk) → get w.walks number ≡ Some walk → (reason : Unmet) → Has walk reason → Waits w step')
    → (reason : Unmet) → IsUnmetWalk w number Has reason → Waits w step'
walk_kept w number step' Has none some unmet.NoWalk u = none u
walk_kept w number step' Has none some other u = some u.0 u.1 other u.2

pub kept : (w : World) (step' : Step) (reason : Unmet) → IsUnmet w step' reason → Waits w step'
kept w Join reason u = absurd u
kept w (Begin number call) reason u = begin_waits w number call (begin_kept w number call reason u)
kept w (Descend number) reason u =
    walk_kept w number (Descend number) (IsUnmetDescent w number) (descend_none w number) (descent_kept w number)
    reason u
kept w (Fork number) reason u =
    walk_kept w number (Fork number) (IsUnmetFork w number) (fork_none w number) (fork_kept w number) reason u
kept w (Commit number) reason u =
    walk_kept w number (Commit number) (IsUnmetCommit w number) (commit_none w number) (commit_kept w number) reason u
kept w (Restart number) reason u =
    walk_kept w number (Restart number) IsUnmetRestart (restart_none w number) (restart_kept w number) reason u
kept w (FdCommit number call) reason u =
    let suits = is_on_descriptor (client_of (shown w) number) call in
    direct_not_now w number suits call (call_kept w number call suits reason u)
kept w (ClientStep number call) reason u =
    let suits = is_alone (client_of (shown w) number) call in
    direct_not_now w number suits call (call_kept w number call suits reason u)

-- so this is why
pub because : (w : World) (step' : Step) (reason : Unmet) → IsUnmet w step' reason → IsWhyNot w step' (Some reason)
because w step' reason u = (u, kept w step' reason u)

-- ---- a step that is enabled

abbrev outcome_of : World → Option (Outcome × World) → Outcome
outcome_of w o = let r : Outcome × World = unwrap_or o (NotNow, w) in r.0

-- something comes of it
made : (w : World) (step' : Step) (p : Outcome × World) → enabled w step' ≡ Some p → p.0 ≢ NotNow
    → IsWhyNot w step' None
made w step' p e other f = other (sym (ap (outcome_of w) e) ∙ f)

module _ (w : World) (number : ℕ) (call : Call) where
  pub begin_made : ((is_idle w number && is_walked (client_of (shown w) number) call) && gate_free w number call) ≡ true
      → IsWhyNot w (Begin number call) None
  begin_made e = made w (Begin number call) (Begun, begun w number call)
      (ap (λ b. cond b (Some (Begun, begun w number call)) None) e) (λ f. cc f)

  pub on_file_made : (is_idle w number && is_on_descriptor (client_of (shown w) number) call) ≡ true
      → IsWhyNot w (FdCommit number call) None
  on_file_made e = made w (FdCommit number call) (replied w number call)
      (ap (λ b. cond b (Some (replied w number call)) None) e) (λ f. cc f)

  pub alone_made : (is_idle w number && is_alone (client_of (shown w) number) call) ≡ true
      → IsWhyNot w (ClientStep number call) None
  alone_made e = made w (ClientStep number call) (replied w number call)
      (ap (λ b. cond b (Some (replied w number call)) None) e) (λ f. cc f)

module _ (w : World) (number : ℕ) (walk : Walk) (is : get w.walks number ≡ Some walk) where
  pub restart_made : walk.stale ≡ true → IsWhyNot w (Restart number) None
  restart_made stale = made w (Restart number) (Restarted, restarted w number walk)
      (ap (option_and_then (restart w number)) is
      ∙ ap (λ b. cond b (Some (Restarted, restarted w number walk)) None) stale) (λ f. cc f)

  pub fork_made : walk.stale ≡ false → (at : Position) → forked walk.call walk.at ≡ Some at
      → IsWhyNot w (Fork number) None
  fork_made fresh at e = made w (Fork number) (Forked, with_walk w number (record walk { at = at }))
      (ap (option_and_then (fork w number)) is
      ∙ (λ i. cond (fresh i) None
      (option_map (λ (p : Position). (Forked, with_walk w number (record walk { at = p }))) (e i)))) (λ f. cc f)

  pub enter_made : walk.stale ≡ false → walk.at ≡ Above → is_marked w root ≡ false
      → (not (walk.starts == 4) || may_hold w number) ≡ true → IsWhyNot w (Descend number) None
  enter_made fresh top free gate = made w (Descend number) (Stands root, entered w number walk)
      (ap (option_and_then (descend w number)) is
      ∙ (λ i. cond (fresh i) None (cond (is_above (top i)) (enter w number walk)
      (option_and_then (stand w number walk)
      (option_and_then (further (shown w) (domain_of w number)) (turn (top i))))))
      ∙ (λ i. cond (not (free i) && gate i) (Some (Stands root, entered w number walk)) None)) (λ f. cc f)

  pub descend_made : walk.stale ≡ false → (leg next : Leg) → turn walk.at ≡ Some leg
      → further (shown w) (domain_of w number) leg ≡ Some next → is_marked w next.here ≡ false
      → IsWhyNot w (Descend number) None
  descend_made fresh leg next turned e free = made w (Descend number) (Stands next.here, stood w number walk next)
      (ap (option_and_then (descend w number)) is
      ∙ (λ i. cond (fresh i) None (cond (turns walk.at leg turned i) (enter w number walk)
      (option_and_then (stand w number walk)
      (option_and_then (further (shown w) (domain_of w number)) (turned i)))))
      ∙ ap (λ o. option_and_then (stand w number walk) o) e
      ∙ ap (λ b. cond (not b) (Some (Stands next.here, stood w number walk next)) None) free) (λ f. cc f)

  pub commit_made : may_commit w number walk ≡ true → IsWhyNot w (Commit number) None
  commit_made may = made w (Commit number) (committed w number walk)
      (ap (option_and_then (commit w number)) is
      ∙ ap (λ b. cond b (Some (committed w number walk)) None) may) (λ f. cc f)
