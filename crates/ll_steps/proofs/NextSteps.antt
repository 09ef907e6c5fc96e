-- Where one step of a walk comes next, no other may be made.
use Rattle.std.specs.Prelude.{◌≡◌, ◌≢◌, ◌⊎◌, ℕ, Bool, true, false, cond, not, ◌&&◌, List, [], ◌∷◌, Option, Some, None}
use Rattle.std.specs.Prelude.{is_none, unwrap_or, option_map, option_and_then, IfSome, IfNone, refl}
use Rattle.std.specs.Option.{option_map_or}
use Rattle.std.proofs.Common.{sym, ap, subst, ◌∙◌, inl, inr}
use Rattle.ll_rights.specs.Map.{get}
use Rattle.ll_path.specs.Path.{Path, is_root}
use Rattle.ll_rules.specs.Layer.{Layer}
use Rattle.ll_seq.specs.declared.call.Call.{Call}
use Rattle.ll_seq.specs.Call.{first_path, second_path}
use Rattle.ll_seq.specs.State.{Name, State}
use Rattle.ll_laws.proofs.Chains.{same_Some}
use Rattle.ll_laws.specs.declared.step.Step.TheVariants.{Commit, Descend, Fork, Restart}
use Rattle.ll_laws.specs.Walk.{Walk, Leg, Position, Above, Down, Split, at_ends, directory_under, forked, further}
use Rattle.ll_laws.specs.Walk.{further_by, has_two_paths, is_blocked, leg_below, toward, turn}
use Rattle.ll_laws.specs.Walks.{AreFew}
use Rattle.ll_laws.specs.World as world
use Rattle.ll_laws.specs.World.{World, domain_of, fork, restart, shown, stand, with_walk}
use Rattle.ll_laws.proofs.Shapes.{leg_is_blocked, restarted}
use Rattle.ll_laws.proofs.Tests.{both, not_true}
use Rattle.ll_journal.specs.Book.{Book}
use Rattle.ll_journal.specs.NextStep.{IsAtStop}
use Rattle.ll_journal.specs.Stations.{station_at, station_in, station_of}
use Rattle.ll_journal.specs.Steps.{IsNext}
use Rattle.ll_journal.specs.declared.station.Station.{Station}
use Rattle.ll_journal.specs.declared.station.Station.TheVariants as station
use Rattle.ll_journal.proofs.Advances.{commit_none, commit_not_now, descend_none, descend_stale, may_commit_on_the_way}
use Rattle.ll_journal.proofs.Advances.{may_commit_stale}
use Rattle.ll_steps.specs.CallOutcomes.{IsStuck, Leads, Waits, answered, waits}
use Rattle.ll_steps.specs.Left.{StepsOn}
use Rattle.ll_steps.specs.Makes.{Makes}
use Rattle.ll_steps.specs.declared.report.Report.{Report}
use Rattle.ll_steps.specs.declared.report.Report.TheVariants as report
use Rattle.ll_steps.proofs.Nearness.{after_descent, after_fork, after_restart}
use Rattle.ll_steps.proofs.StepKinds.{forks, restarts, stands, waits_so}
use Rattle.ll_steps.proofs.WalkMakes.{commit_nowhere, goes_further}

-- ---- steps that wait

module _ (w : World) (client : ℕ) where
  abbrev done_or_not : Option (world.Outcome × World) → world.Outcome × World
  done_or_not o = unwrap_or o (world.NotNow, w)

  pub fork_none : get w.walks client ≡ None → Waits w (Fork client)
  fork_none none = ap (λ o. done_or_not (option_and_then (fork w client) o)) none

  pub restart_none : get w.walks client ≡ None → Waits w (Restart client)
  restart_none none = ap (λ o. done_or_not (option_and_then (restart w client) o)) none

  module _ (walk : Walk) (is : get w.walks client ≡ Some walk) where
    abbrev past_fork : Option Position → Option (world.Outcome × World)
    past_fork o = option_map (λ at. (world.Forked, with_walk w client (record walk { at = at }))) o

    pub fork_stale : walk.stale ≡ true → Waits w (Fork client)
    fork_stale e =
        ap (λ o. done_or_not (option_and_then (fork w client) o)) is
        ∙ ap (λ b. done_or_not (cond b None (past_fork (forked walk.call walk.at)))) e

    pub fork_away : forked walk.call walk.at ≡ None → Waits w (Fork client)
    fork_away e =
        ap (λ o. done_or_not (option_and_then (fork w client) o)) is
        ∙ ap (λ o. done_or_not (cond walk.stale None (past_fork o))) e ∙ either walk.stale
      where
        either : (b : Bool) → done_or_not (cond b None None) ≡ (world.NotNow, w)
        either true = refl
        either false = refl

    pub restart_fresh : walk.stale ≡ false → Waits w (Restart client)
    restart_fresh e =
        ap (λ o. done_or_not (option_and_then (restart w client) o)) is
        ∙ ap (λ b. done_or_not (cond b (Some (world.Restarted, restarted w client walk)) None)) e

    pub descend_away : walk.stale ≡ false → (leg : Leg) → turn walk.at ≡ Some leg
        → further (shown w) (domain_of w client) leg ≡ None → Waits w (Descend client)
    descend_away fresh leg turned e =
        goes_further w client walk is fresh leg turned
        ∙ ap (λ o. done_or_not (option_and_then (stand w client walk) o)) e

    pub commit_away : option_map_or (leg_is_blocked (shown w)) (turn walk.at) false ≡ false
        → at_ends walk.call walk.at ≡ false → Waits w (Commit client)
    commit_away free more = commit_not_now w client walk is (may_commit_on_the_way w client walk is free more)

-- ---- where a walk is

-- a walk is under way that isn't stale
abbrev pub goes : Station → Bool
goes station.Idle = false
goes station.Stale = false
goes station.Above = true
goes station.Trunk = true
goes station.Fork = true
goes station.First = true
goes station.Second = true
goes station.End = true

station_goes : (call : Call) (at : Position) → goes (station_at call at) ≡ true
station_goes call Above = refl
station_goes call (Down trunk) = by (is_root trunk.ahead) (has_two_paths call)
  where
    by : (a b : Bool) → goes (cond a (cond b station.Fork station.End) station.Trunk) ≡ true
    by true true = refl
    by true false = refl
    by false b = refl
station_goes call (Split trunk old new) = by (is_root old.ahead) (is_root new.ahead)
  where
    by : (a b : Bool) → goes (cond a (cond b station.End station.Second) station.First) ≡ true
    by true true = refl
    by true false = refl
    by false b = refl

-- at this place
pub record Stands (w : World) (client : ℕ) (place : Station) : Type 0 where
  pub walk : Walk
  pub is : get w.walks client ≡ Some walk
  pub fresh : walk.stale ≡ false
  pub there : station_at walk.call walk.at ≡ place

pub none_idle : (w : World) (client : ℕ) → station_in w client ≡ station.Idle → get w.walks client ≡ None
none_idle w client e = by (get w.walks client) e
  where
    by : (o : Option Walk) → station_of o ≡ station.Idle → o ≡ None
    by None f = refl
    by (Some walk) f = elim walk.stale as (λ b. cond b station.Stale (station_at walk.call walk.at) ≡ station.Idle
        → Some walk ≡ None) [
          | true ↦ λ g. absurd (cc g)
          | false ↦ λ g. absurd (cc (sym (station_goes walk.call walk.at) ∙ ap goes g))
        ] f

pub is_stale : (w : World) (client : ℕ) → station_in w client ≡ station.Stale → (walk : Walk)
    × (get w.walks client ≡ Some walk) × (walk.stale ≡ true)
is_stale w client e = by (get w.walks client) refl e
  where
    by : (o : Option Walk) → get w.walks client ≡ o → station_of o ≡ station.Stale → (walk : Walk)
        × (get w.walks client ≡ Some walk) × (walk.stale ≡ true)
    by None is f = absurd (cc f)
    by (Some walk) is f = elim walk.stale as (λ b. walk.stale ≡ b
        → cond b station.Stale (station_at walk.call walk.at) ≡ station.Stale → (walk : Walk)
        × (get w.walks client ≡ Some walk) × (walk.stale ≡ true)) [
          | true ↦ λ stale g. (walk, is, stale)
          | false ↦ λ fresh g. absurd (cc (sym (station_goes walk.call walk.at) ∙ ap goes g))
        ] refl f

pub stands_so : (w : World) (client : ℕ) (place : Station) → station_in w client ≡ place → goes place ≡ true
    → Stands w client place
stands_so w client place e moves = by (get w.walks client) refl e
  where
    by : (o : Option Walk) → get w.walks client ≡ o → station_of o ≡ place → Stands w client place
    by None is f = absurd (cc (ap goes f ∙ moves))
    by (Some walk) is f = elim walk.stale as (λ b. walk.stale ≡ b
        → cond b station.Stale (station_at walk.call walk.at) ≡ place → Stands w client place) [
          | true ↦ λ stale g. absurd (cc (ap goes g ∙ moves))
          | false ↦ λ fresh g. record { walk = walk; is = is; fresh = fresh; there = g }
        ] refl f

-- ---- what is next

-- only this step may be made
record OnlyFork (w : World) (client : ℕ) : Type 0 where
  pub commit : Waits w (Commit client)
  pub descend : Waits w (Descend client)
  pub restart : Waits w (Restart client)

record OnlyDescend (w : World) (client : ℕ) : Type 0 where
  pub commit : Waits w (Commit client)
  pub fork : Waits w (Fork client)
  pub restart : Waits w (Restart client)

record OnlyRestart (w : World) (client : ℕ) : Type 0 where
  pub commit : Waits w (Commit client)
  pub fork : Waits w (Fork client)
  pub descend : Waits w (Descend client)

-- at the fork
pub at_fork : (call : Call) (at : Position) → station_at call at ≡ station.Fork → (trunk : Leg) × (at ≡ Down trunk)
    × (is_root trunk.ahead ≡ true) × (has_two_paths call ≡ true)
at_fork call Above e = absurd (cc e)
at_fork call (Down trunk) e = by (is_root trunk.ahead) refl (has_two_paths call) refl e
  where
    by : (a : Bool) → is_root trunk.ahead ≡ a → (b : Bool) → has_two_paths call ≡ b
        → cond a (cond b station.Fork station.End) station.Trunk ≡ station.Fork
        → (leg : Leg) × (Down trunk ≡ Down leg) × (is_root leg.ahead ≡ true) × (has_two_paths call ≡ true)
    by true r true t f = (trunk, refl, r, t)
    by true r false t f = absurd (cc f)
    by false r b t f = absurd (cc f)
at_fork call (Split trunk old new) e = absurd (by (is_root old.ahead) (is_root new.ahead) e)
  where
    by : (a b : Bool) → cond a (cond b station.End station.Second) station.First ≡ station.Fork → ⊥
    by true true f = cc f
    by true false f = cc f
    by false b f = cc f

pub ended_leg : (s : State) (domain : List Layer) (leg : Leg) → is_root leg.ahead ≡ true → (further s domain leg ≡ None)
    × (leg_is_blocked s leg ≡ false)
ended_leg s domain leg e = by leg.ahead e
  where
    by : (p : Path) → is_root p ≡ true → (further_by s domain leg p ≡ None) × (is_blocked s leg.here p ≡ false)
    by [] f = (refl, refl)
    by (name ∷ rest) f = absurd (cc f)

only_fork : (w : World) (client : ℕ) → station_in w client ≡ station.Fork → OnlyFork w client
only_fork w client e =
    let here = stands_so w client station.Fork e refl in
    let walk = here.walk in
    let down = at_fork walk.call walk.at here.there in
    let turned : turn walk.at ≡ Some down.0 = ap turn down.1 in
    let ended = ended_leg (shown w) (domain_of w client) down.0 down.2 in
    record {
      commit =
          commit_away w client walk here.is
          (ap (λ o. option_map_or (leg_is_blocked (shown w)) o false) turned ∙ ended.1)
          (ap (at_ends walk.call) down.1 ∙ ap (λ b. not b && is_root down.0.ahead) down.3);
      descend = descend_away w client walk here.is here.fresh down.0 turned ended.0;
      restart = restart_fresh w client walk here.is here.fresh;
    }

-- above the root
pub above : (call : Call) (at : Position) → station_at call at ≡ station.Above → at ≡ Above
above call Above e = refl
above call (Down trunk) e = absurd (by (is_root trunk.ahead) (has_two_paths call) e)
  where
    by : (a b : Bool) → cond a (cond b station.Fork station.End) station.Trunk ≡ station.Above → ⊥
    by true true f = cc f
    by true false f = cc f
    by false b f = cc f
above call (Split trunk old new) e = absurd (by (is_root old.ahead) (is_root new.ahead) e)
  where
    by : (a b : Bool) → cond a (cond b station.End station.Second) station.First ≡ station.Above → ⊥
    by true true f = cc f
    by true false f = cc f
    by false b f = cc f

only_enter : (w : World) (client : ℕ) → station_in w client ≡ station.Above → OnlyDescend w client
only_enter w client e =
    let here = stands_so w client station.Above e refl in
    let walk = here.walk in
    let top : walk.at ≡ Above = above walk.call walk.at here.there in
    record {
      commit = commit_nowhere w client (ap (option_and_then (λ (v : Walk). turn v.at)) here.is ∙ ap turn top);
      fork = fork_away w client walk here.is (ap (forked walk.call) top);
      restart = restart_fresh w client walk here.is here.fresh;
    }

-- with a directory to go to
pub has_more : (s : State) (domain : List Layer) (leg next : Leg) → further s domain leg ≡ Some next
    → (is_root leg.ahead ≡ false) × (leg_is_blocked s leg ≡ false)
has_more s domain leg next e = by leg.ahead e
  where
    found : (name : Name) (rest : Path) (o : Option ℕ) → option_map (leg_below domain leg name rest) o ≡ Some next
        → is_none o ≡ false
    found name rest None f = absurd (cc f)
    found name rest (Some i) f = refl

    by : (p : Path) → further_by s domain leg p ≡ Some next → (is_root p ≡ false) × (is_blocked s leg.here p ≡ false)
    by [] f = absurd (cc f)
    by (name ∷ rest) f = (refl, found name rest (directory_under s leg.here name) f)

-- past the fork, where it stands there
abbrev pub past : Call → Leg → Bool → Option Position
past call trunk b = cond b (Some (Split trunk (toward trunk (first_path call)) (toward trunk (second_path call)))) None

neither : (b : Bool) → (b && false) ≡ false
neither true = refl
neither false = refl

-- neither at its ends nor at the fork
pub on_the_way : (call : Call) (at : Position) (leg : Leg) → turn at ≡ Some leg → is_root leg.ahead ≡ false
    → (at_ends call at ≡ false) × (forked call at ≡ None)
on_the_way call Above leg turned more = absurd (cc turned)
on_the_way call (Down trunk) leg turned more =
    let on : is_root trunk.ahead ≡ false = ap (λ (l : Leg). is_root l.ahead) (same_Some trunk leg turned) ∙ more in (
      ap (λ b. not (has_two_paths call) && b) on ∙ neither (not (has_two_paths call)),
      ap (past call trunk) (ap (λ b. has_two_paths call && b) on ∙ neither (has_two_paths call)),
    )
on_the_way call (Split trunk old new) leg turned more = (
  elim (is_root old.ahead) as (λ b. Some (cond b new old) ≡ Some leg → (b && is_root new.ahead) ≡ false) [
    | true ↦ λ e. ap (λ (l : Leg). is_root l.ahead) (same_Some new leg e) ∙ more
    | false ↦ λ e. refl
  ] turned,
  refl,
)

going : (b : Book) (client from to : ℕ) → IsNext b client from to → (walk : Walk)
    × (get b.world.walks client ≡ Some walk)
going b client from to next = by (get b.world.walks client) refl
  where
    by : (o : Option Walk) → get b.world.walks client ≡ o → (walk : Walk) × (get b.world.walks client ≡ Some walk)
    by None is = absurd (cc (sym (ap (option_and_then (λ (v : Walk). turn v.at)) is) ∙ next.in_turn))
    by (Some walk) is = (walk, is)

only_descend : (b : Book) (client from to : ℕ) → IsNext b client from to → OnlyDescend b.world client
only_descend b client from to next =
    let here = going b client from to next in
    let walk = here.0 in
    let turned : turn walk.at ≡ Some next.leg =
    sym (ap (option_and_then (λ (v : Walk). turn v.at)) here.1) ∙ next.in_turn in
    let fresh : walk.stale ≡ false =
    not_true walk.stale (sym (ap (λ o. option_map_or (λ (v : Walk). not v.stale) o false) here.1) ∙ next.going) in
    let more = has_more (shown b.world) (domain_of b.world client) next.leg next.next next.further_is in
    let way = on_the_way walk.call walk.at next.leg turned more.0 in
    record {
      commit = commit_away b.world client walk here.1
          (ap (λ o. option_map_or (leg_is_blocked (shown b.world)) o false) turned ∙ more.1) way.0;
      fork = fork_away b.world client walk here.1 way.1;
      restart = restart_fresh b.world client walk here.1 fresh;
    }

only_restart : (w : World) (client : ℕ) → station_in w client ≡ station.Stale → OnlyRestart w client
only_restart w client e =
    let here = is_stale w client e in record {
      commit = commit_not_now w client here.0 here.1 (may_commit_stale w client here.0 here.1 here.2);
      fork = fork_stale w client here.0 here.1 here.2;
      descend = descend_stale w client here.0 here.1 here.2;
    }

-- with its next name in the way
pub blocked_leg : (s : State) (domain : List Layer) (leg : Leg) → is_blocked s leg.here leg.ahead ≡ true
    → (is_root leg.ahead ≡ false) × (further s domain leg ≡ None)
blocked_leg s domain leg e = by leg.ahead e
  where
    found : (name : Name) (rest : Path) (o : Option ℕ) → is_none o ≡ true
        → option_map (leg_below domain leg name rest) o ≡ None
    found name rest None f = refl
    found name rest (Some i) f = absurd (cc f)

    by : (p : Path) → is_blocked s leg.here p ≡ true → (is_root p ≡ false) × (further_by s domain leg p ≡ None)
    by [] f = absurd (cc f)
    by (name ∷ rest) f = (refl, found name rest (directory_under s leg.here name) f)

-- at its ends: with no name ahead, and past the fork if there is one
pub at_its_ends : (call : Call) (at : Position) (leg : Leg) → turn at ≡ Some leg → at_ends call at ≡ true
    → (is_root leg.ahead ≡ true) × (forked call at ≡ None)
at_its_ends call Above leg turned e = absurd (cc turned)
at_its_ends call (Down trunk) leg turned e =
    let ends = both (not (has_two_paths call)) (is_root trunk.ahead) e in (
      ap (λ (l : Leg). is_root l.ahead) (sym (same_Some trunk leg turned)) ∙ ends.1,
      ap (λ b. past call trunk (b && is_root trunk.ahead)) (not_true (has_two_paths call) ends.0),
    )
at_its_ends call (Split trunk old new) leg turned e =
    let ends = both (is_root old.ahead) (is_root new.ahead) e in
    let second : Some new ≡ Some leg = ap (λ b. Some (cond b new old)) (sym ends.0) ∙ turned in
    (ap (λ (l : Leg). is_root l.ahead) (sym (same_Some new leg second)) ∙ ends.1, refl)

only_commit : (b : Book) (client : ℕ) (slots : List ℕ) → IsAtStop b client slots → IsStuck b.world client
only_commit b client slots stop =
    let w = b.world in
    let ended = by stop.stops in (
      fork_away w client stop.walk stop.is ended.1,
      descend_away w client stop.walk stop.is stop.fresh stop.leg stop.in_turn ended.0,
      restart_fresh w client stop.walk stop.is stop.fresh,
    )
  where
    by : (is_blocked (shown b.world) stop.leg.here stop.leg.ahead ≡ true) ⊎ (at_ends stop.walk.call stop.walk.at ≡ true)
        → (further (shown b.world) (domain_of b.world client) stop.leg ≡ None)
        × (forked stop.walk.call stop.walk.at ≡ None)
    by (inl blocked) =
        let no = blocked_leg (shown b.world) (domain_of b.world client) stop.leg blocked in
        (no.1, (on_the_way stop.walk.call stop.walk.at stop.leg stop.in_turn no.0).1)
    by (inr ends) =
        let no = at_its_ends stop.walk.call stop.walk.at stop.leg stop.in_turn ends in
        ((ended_leg (shown b.world) (domain_of b.world client) stop.leg no.0).0, no.1)

-- ---- what comes of the step

-- no walk is under way
pub nothing_comes : (w : World) (client : ℕ) → station_in w client ≡ station.Idle → Leads client w report.NotNow w
nothing_comes w client e =
    let none = none_idle w client e in
    waits w (commit_none w client none)
    (fork_none w client none, descend_none w client none, restart_none w client none)

pub commit_comes : (b : Book) (client : ℕ) (slots : List ℕ) (v : World) (o : Report) → IsAtStop b client slots
    → Makes b.world (Commit client) o v → Leads client b.world o v
commit_comes b client slots v o stop m = by o m
  where
    by : (o : Report) → Makes b.world (Commit client) o v → Leads client b.world o v
    by report.NotNow m =
        let idle = waits_so b.world v (Commit client) report.NotNow m refl in
        subst (λ (u : World). Leads client b.world report.NotNow u) (sym idle.1)
        (waits b.world idle.0 (only_commit b client slots stop))
    by report.Begun m = answered b.world v report.Begun m (λ e. cc e)
    by (report.Stands inode) m = answered b.world v (report.Stands inode) m (λ e. cc e)
    by report.Forked m = answered b.world v report.Forked m (λ e. cc e)
    by report.Restarted m = answered b.world v report.Restarted m (λ e. cc e)
    by (report.Joined number) m = answered b.world v (report.Joined number) m (λ e. cc e)
    by (report.Replied k) m = answered b.world v (report.Replied k) m (λ e. cc e)
    by (report.Refused errno) m = answered b.world v (report.Refused errno) m (λ e. cc e)

-- what is told of a step that may have to wait: none where it was made
pub record Told (o : Report) (r : Option Report) : Type 0 where
  pub made : IfNone r (o ≢ report.NotNow)
  pub idle : IfSome r (λ t. (t ≡ report.NotNow) × (o ≡ report.NotNow))

-- the walk waits
waiting : (w v : World) (client : ℕ) (t : Report) → t ≡ report.NotNow → v ≡ w → Waits w (Commit client)
    → IsStuck w client → Leads client w t v
waiting w v client t is same commit stuck =
    subst (λ (p : Report × World). Leads client w p.0 p.1) (λ i. (sym is i, sym same i)) (waits w commit stuck)

module _ (w v : World) (client : ℕ) (o : Report) where
  fork_tells : (r : Option Report) → OnlyFork w client → Makes w (Fork client) o v → Told o r → StepsOn w client r v
  fork_tells None only m t =
      let step = forks w v client o m t.made in
      (only.commit, inl step, after_fork w v client step)
  fork_tells (Some p) only m t =
      let idle = waits_so w v (Fork client) o m t.idle.1 in
      waiting w v client p t.idle.0 idle.1 only.commit (idle.0, only.descend, only.restart)

  descend_tells : (r : Option Report) → OnlyDescend w client → Makes w (Descend client) o v → Told o r
      → StepsOn w client r v
  descend_tells None only m t =
      let step = stands w v client o m t.made in
      (only.commit, inr (inl (only.fork, step.0, step.1)), after_descent w v client step.0 step.1)
  descend_tells (Some p) only m t =
      let idle = waits_so w v (Descend client) o m t.idle.1 in
      waiting w v client p t.idle.0 idle.1 only.commit (only.fork, idle.0, only.restart)

  restart_tells : (r : Option Report) → OnlyRestart w client → AreFew v → Makes w (Restart client) o v → Told o r
      → StepsOn w client r v
  restart_tells None only few m t =
      let step = restarts w v client o m t.made in
      (only.commit, inr (inr (only.fork, only.descend, step)), after_restart w v client few step)
  restart_tells (Some p) only few m t =
      let idle = waits_so w v (Restart client) o m t.idle.1 in
      waiting w v client p t.idle.0 idle.1 only.commit (only.fork, only.descend, idle.0)

  module _ (r : Option Report) (told : Told o r) where
    pub fork_comes : station_in w client ≡ station.Fork → Makes w (Fork client) o v → StepsOn w client r v
    fork_comes e m = fork_tells r (only_fork w client e) m told

    pub entry_comes : station_in w client ≡ station.Above → Makes w (Descend client) o v → StepsOn w client r v
    entry_comes e m = descend_tells r (only_enter w client e) m told

    pub descent_comes : (b : Book) (from to : ℕ) → b.world ≡ w → IsNext b client from to → Makes w (Descend client) o v
        → StepsOn w client r v
    descent_comes b from to is next m =
        descend_tells r (subst (λ (u : World). OnlyDescend u client) is (only_descend b client from to next)) m told

    pub restart_comes : station_in w client ≡ station.Stale → AreFew v → Makes w (Restart client) o v
        → StepsOn w client r v
    restart_comes e few m = restart_tells r (only_restart w client e) few m told
