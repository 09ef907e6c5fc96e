-- What is found of a client and its walk, and the reason that it is.
use Rattle.std.specs.Prelude.{◌≡◌, ◌≢◌, ◌⊎◌, ℕ, Bool, true, false, cond, not, ◌&&◌, ◌||◌, ◌==◌, List, [], ◌∷◌}
use Rattle.std.specs.Prelude.{Option, Some, None, IsSome, IfNone, is_none, is_some}
use Rattle.std.specs.Prelude.{option_and_then, option_map, refl}
use Rattle.std.specs.Option.{option_map_or}
use Rattle.std.proofs.Common.{sym, subst, ap, ◌∙◌, inl, inr}
use Rattle.std.proofs.lemmas.Bool.{eqb-true, eq-eqb}
use Rattle.ll_rights.specs.Map.{get}
use Rattle.ll_path.specs.Path.{Path, is_root}
use Rattle.ll_rules.specs.Layer.{Layer}
use Rattle.ll_seq.specs.declared.call.Call.{Call}
use Rattle.ll_seq.specs.Call.{first_path, second_path}
use Rattle.ll_seq.specs.State.{Name, State, root}
use Rattle.ll_seq.specs.Step.{client_of}
use Rattle.ll_laws.proofs.Chains.{same_Some}
use Rattle.ll_laws.proofs.Shapes.{leg_is_blocked, may_hold}
use Rattle.ll_laws.proofs.Tests as tests
use Rattle.ll_laws.specs.Sound.{IsSound}
use Rattle.ll_laws.specs.declared.step.Step.TheVariants.{Descend, Fork, Commit, Restart}
use Rattle.ll_laws.specs.Walk.{Walk, Leg, Position, Above, Down, Split, at_ends, directory_under, forked, further}
use Rattle.ll_laws.specs.Walk.{further_by, has_two_paths, is_above, is_blocked, leg_below, toward}
use Rattle.ll_laws.specs.Walk.{turn}
use Rattle.ll_laws.specs.World.{World, domain_of, is_marked}
use Rattle.ll_laws.specs.World.{is_walked, shown}
use Rattle.ll_node.specs.declared.held.Held.{Held}
use Rattle.ll_journal.specs.Book.{Book, inode_in, mark_of, slot_of}
use Rattle.ll_journal.specs.Stations.{station_at, station_in}
use Rattle.ll_journal.specs.Steps.{GoesDown, IsNext, leg_in_turn}
use Rattle.ll_journal.specs.declared.station.Station.{Station}
use Rattle.ll_journal.specs.declared.station.Station.TheVariants as station
use Rattle.ll_journal.proofs.Advances.{may_commit_at_ends, may_commit_blocked}
use Rattle.ll_journal.proofs.LentAfter.{inode_is}
use Rattle.ll_journal.proofs.MarkOf.{are_clients, is_marked_is, mark_found}
use Rattle.ll_journal.proofs.MarkOf.{whose_mark}
use Rattle.ll_steps.specs.Unmet.{IsFree, IsMarkedBy, IsNowhere, IsUnmetCall, IsUnmetBegin, IsWhyNot, has_names}
use Rattle.ll_steps.specs.Unmet.{next_directory}
use Rattle.ll_steps.specs.declared.unmet.Unmet.{Unmet}
use Rattle.ll_steps.specs.declared.unmet.Unmet.TheVariants as unmet
use Rattle.ll_steps.proofs.NextSteps.{Stands, above, at_fork, goes, is_stale, none_idle, past, stands_so}
use Rattle.ll_steps.proofs.Reasons.{because, commit_made, descend_made, enter_made, fork_made, restart_made}
use Rattle.ll_steps.proofs.WalkMakes.{turns}

-- ---- a call

-- any reason that doesn't depend on the step keeps a call from beginning
pub begins_not : (w : World) (number : ℕ) (call : Call) (reason : Unmet)
    → ((c : Call) (suits : Bool) → IsUnmetCall w number c suits reason) → IsUnmetBegin w number call reason
begins_not w number call (unmet.Gate holder) u = absurd (u call false).1
begins_not w number call other u = u call (is_walked (client_of (shown w) number) call)

-- ---- stations

-- the leg in turn has names ahead
names_at : (call : Call) (at : Position) → has_names (station_at call at) ≡ true → (leg : Leg) × (turn at ≡ Some leg)
    × (is_root leg.ahead ≡ false)
names_at call Above e = absurd (cc e)
names_at call (Down trunk) e = by (is_root trunk.ahead) refl (has_two_paths call) e
  where
    by : (a : Bool) → is_root trunk.ahead ≡ a → (b : Bool)
        → has_names (cond a (cond b station.Fork station.End) station.Trunk) ≡ true
        → (leg : Leg) × (turn (Down trunk) ≡ Some leg) × (is_root leg.ahead ≡ false)
    by true r true f = absurd (cc f)
    by true r false f = absurd (cc f)
    by false r b f = (trunk, refl, r)
names_at call (Split trunk old new) e = by (is_root old.ahead) refl (is_root new.ahead) refl e
  where
    by : (a : Bool) → is_root old.ahead ≡ a → (b : Bool) → is_root new.ahead ≡ b
        → has_names (cond a (cond b station.End station.Second) station.First) ≡ true
        → (leg : Leg) × (turn (Split trunk old new) ≡ Some leg) × (is_root leg.ahead ≡ false)
    by true r true s f = absurd (cc f)
    by true r false s f = (new, ap (λ b. Some (cond b new old)) r, s)
    by false r b s f = (old, ap (λ b. Some (cond b new old)) r, r)

names_go : (place : Station) → has_names place ≡ true → goes place ≡ true
names_go station.Trunk e = refl
names_go station.First e = refl
names_go station.Second e = refl
names_go other e = absurd (cc e)

-- it is one of these
pub named_so : (place : Station) → (place ≡ station.Trunk) ⊎ (place ≡ station.First) ⊎ (place ≡ station.Second)
    → has_names place ≡ true
named_so place (inl e) = ap has_names e
named_so place (inr (inl e)) = ap has_names e
named_so place (inr (inr e)) = ap has_names e

-- and neither of these
pub else_goes : (place : Station) → place ≢ station.Idle → place ≢ station.Stale → goes place ≡ true
else_goes station.Idle a b = absurd (a refl)
else_goes station.Stale a b = absurd (b refl)
else_goes other a b = refl

trunk_at : (call : Call) (at : Position) → station_at call at ≡ station.Trunk → (trunk : Leg) × (at ≡ Down trunk)
trunk_at call Above e = absurd (cc e)
trunk_at call (Down trunk) e = (trunk, refl)
trunk_at call (Split trunk old new) e = absurd (by (is_root old.ahead) (is_root new.ahead) e)
  where
    by : (a b : Bool) → cond a (cond b station.End station.Second) station.First ≡ station.Trunk → ⊥
    by true true f = cc f
    by true false f = cc f
    by false b f = cc f

-- past the fork
abbrev is_past : Station → Bool
is_past station.First = true
is_past station.Second = true
is_past other = false

pub past_so : (place : Station) → (place ≡ station.First) ⊎ (place ≡ station.Second) → is_past place ≡ true
past_so place (inl e) = ap is_past e
past_so place (inr e) = ap is_past e

past_at : (call : Call) (at : Position) → is_past (station_at call at) ≡ true
    → (trunk old new : Leg) × (at ≡ Split trunk old new)
past_at call Above e = absurd (cc e)
past_at call (Down trunk) e = absurd (by (is_root trunk.ahead) (has_two_paths call) e)
  where
    by : (a b : Bool) → is_past (cond a (cond b station.Fork station.End) station.Trunk) ≡ true → ⊥
    by true true f = cc f
    by true false f = cc f
    by false b f = cc f
past_at call (Split trunk old new) e = (trunk, old, new, refl)

ended_at : (call : Call) (at : Position) → station_at call at ≡ station.End → at_ends call at ≡ true
ended_at call Above e = absurd (cc e)
ended_at call (Down trunk) e = by (is_root trunk.ahead) (has_two_paths call) e
  where
    by : (a b : Bool) → cond a (cond b station.Fork station.End) station.Trunk ≡ station.End → (not b && a) ≡ true
    by true true f = absurd (cc f)
    by true false f = refl
    by false b f = absurd (cc f)
ended_at call (Split trunk old new) e = by (is_root old.ahead) (is_root new.ahead) e
  where
    by : (a b : Bool) → cond a (cond b station.End station.Second) station.First ≡ station.End → (a && b) ≡ true
    by true true f = refl
    by true false f = absurd (cc f)
    by false b f = absurd (cc f)

split_at : (call : Call) (at : Position) → station_at call at ≡ station.End → has_two_paths call ≡ true
    → (trunk old new : Leg) × (at ≡ Split trunk old new)
split_at call Above e two = absurd (cc e)
split_at call (Down trunk) e two =
    absurd (by (is_root trunk.ahead)
    (ap (λ b. cond (is_root trunk.ahead) (cond b station.Fork station.End) station.Trunk) (sym two) ∙ e))
  where
    by : (a : Bool) → cond a station.Fork station.Trunk ≡ station.End → ⊥
    by true f = cc f
    by false f = cc f
split_at call (Split trunk old new) e two = (trunk, old, new, refl)

-- ---- the directory that is next

-- with a name ahead and nowhere to go, the name is in the way
no_further : (s : State) (domain : List Layer) (leg : Leg) → is_root leg.ahead ≡ false → further s domain leg ≡ None
    → is_blocked s leg.here leg.ahead ≡ true
no_further s domain leg more none = by leg.ahead more none
  where
    gone : (name : Name) (rest : Path) (o : Option ℕ) → option_map (leg_below domain leg name rest) o ≡ None
        → is_none o ≡ true
    gone name rest None f = refl
    gone name rest (Some i) f = absurd (cc f)

    by : (p : Path) → is_root p ≡ false → further_by s domain leg p ≡ None → is_blocked s leg.here p ≡ true
    by [] m f = absurd (cc m)
    by (name ∷ rest) m f = gone name rest (directory_under s leg.here name) f

module _ (w : World) (client : ℕ) (walk : Walk) (is : get w.walks client ≡ Some walk) where
  turned_leg : (leg : Leg) → leg_in_turn w client ≡ Some leg → turn walk.at ≡ Some leg
  turned_leg leg e = sym (ap (option_and_then (λ (v : Walk). turn v.at)) is) ∙ e

  next_is : (leg next : Leg) → turn walk.at ≡ Some leg → further (shown w) (domain_of w client) leg ≡ Some next
      → next_directory w client walk ≡ Some next.here
  next_is leg next turned e =
      (λ i. cond (turns walk.at leg turned i) (Some root) (option_map (λ (l : Leg). l.here)
      (option_and_then (further (shown w) (domain_of w client)) (turned i))))
      ∙ ap (option_map (λ (l : Leg). l.here)) e

-- where the leg in turn goes, as the slots tell
record GoesOn (b : Book) (client to : ℕ) (leg : Leg) : Type 0 where
  next : Leg
  further_is : further (shown b.world) (domain_of b.world client) leg ≡ Some next
  to_there : inode_in b to ≡ next.here

goes_on : (b : Book) (client to : ℕ) (walk : Walk) → get b.world.walks client ≡ Some walk → (leg : Leg)
    → turn walk.at ≡ Some leg → (from : ℕ) × IsNext b client from to → GoesOn b client to leg
goes_on b client to walk is leg turned n =
    let same : n.1.leg ≡ leg =
    same_Some n.1.leg leg (sym (turned_leg b.world client walk is n.1.leg n.1.in_turn) ∙ turned) in
    record {
      next = n.1.next;
      further_is = ap (further (shown b.world) (domain_of b.world client)) (sym same) ∙ n.1.further_is;
      to_there = n.1.to_there;
    }

is_some_of : (o : Option Leg) (leg : Leg) → o ≡ Some leg → IsSome o
is_some_of o leg e = subst (λ (p : Option Leg). IsSome p) (sym e) refl

-- where no slot is told
pub nowhere_at : (w : World) (client : ℕ) → leg_in_turn w client ≡ None → IsNowhere w client
nowhere_at w client none walk leg is fresh turned =
    absurd (cc (sym none ∙ ap (option_and_then (λ (v : Walk). turn v.at)) is ∙ turned))

pub nowhere_from : (b : Book) (client from : ℕ) → (leg : Leg) × (leg_in_turn b.world client ≡ Some leg)
    × (inode_in b from ≡ leg.here) → (GoesDown b client from → ⊥) → IsNowhere b.world client
nowhere_from b client from t stays walk leg is fresh turned =
    by (further (shown b.world) (domain_of b.world client) leg) refl
  where
    same : t.0 ≡ leg
    same = same_Some t.0 leg (sym (turned_leg b.world client walk is t.0 t.1) ∙ turned)

    by : (o : Option Leg) → further (shown b.world) (domain_of b.world client) leg ≡ o
        → further (shown b.world) (domain_of b.world client) leg ≡ None
    by None e = e
    by (Some next) e = absurd (stays (record {
      going = ap (λ o. option_map_or (λ (v : Walk). not v.stale) o false) is ∙ ap not fresh;
      leg = leg;
      next = next;
      in_turn = ap (option_and_then (λ (v : Walk). turn v.at)) is ∙ turned;
      further_is = e;
      from_here = t.2 ∙ ap (λ (l : Leg). l.here) same;
    }))

-- as they are told
pub nowhere_or : (b : Book) (client from : ℕ) (o : Option ℕ) → (leg : Leg) × (leg_in_turn b.world client ≡ Some leg)
    × (inode_in b from ≡ leg.here) → IfNone o (GoesDown b client from → ⊥) → IfNone o (IsNowhere b.world client)
nowhere_or b client from None t stays = nowhere_from b client from t stays
nowhere_or b client from (Some to) t stays = tt

-- ---- marks

pub marked_by : (w : World) (inode client : ℕ) → mark_of w inode ≡ Some client → IsMarkedBy w inode client
marked_by w inode client e = whose_mark w inode client (mark_found w inode client e)

pub unmarked : (w : World) (inode : ℕ) → IsSound w → mark_of w inode ≡ None → is_marked w inode ≡ false
unmarked w inode sound e = is_marked_is w inode (are_clients w sound) ∙ ap is_some e

-- ---- descents

module _ (b : Book) (sound : IsSound b.world) (client : ℕ) where
  abbrev w : World
  w = b.world

  -- above the root
  module _ (top : station_in w client ≡ station.Above) where
    abbrev here : Stands w client station.Above
    here = stands_so w client station.Above top refl

    at_top : here.walk.at ≡ Above
    at_top = above here.walk.call here.walk.at here.there

    pub root_marked : (other : ℕ) → mark_of w root ≡ Some other
        → IsWhyNot w (Descend client) (Some (unmet.Marked root other))
    root_marked other e = because w (Descend client) (unmet.Marked root other) (
      here.walk,
      here.is,
      (
        ap (λ (at : Position). cond (is_above at) (Some root)
            (option_map (λ (l : Leg). l.here)
            (option_and_then (further (shown w) (domain_of w client)) (turn at)))) at_top,
        marked_by w root other e,
      ),
    )

    starts_is : (n : ℕ) → n ≡ option_map_or (λ (walk : Walk). walk.starts) (get w.walks client) 0
        → here.walk.starts ≡ n
    starts_is n e = sym (e ∙ ap (λ (o : Option Walk). option_map_or (λ (walk : Walk). walk.starts) o 0) here.is)

    pub root_gated : (n holder : ℕ) → n ≡ option_map_or (λ (walk : Walk). walk.starts) (get w.walks client) 0 → n ≡ 4
        → w.gate ≡ Some holder → holder ≢ client → IsWhyNot w (Descend client) (Some (unmet.Gate holder))
    root_gated n holder told last held other = because w (Descend client) (unmet.Gate holder)
        (here.walk, here.is, (at_top, starts_is n told ∙ last, held, other))

    enters : mark_of w root ≡ None → (not (here.walk.starts == 4) || may_hold w client) ≡ true
        → IsWhyNot w (Descend client) None
    enters none gate = enter_made w client here.walk here.is here.fresh at_top (unmarked w root sound none) gate

    pub root_early : mark_of w root ≡ None → (n : ℕ)
        → n ≡ option_map_or (λ (walk : Walk). walk.starts) (get w.walks client) 0 → n ≢ 4
        → IsWhyNot w (Descend client) None
    root_early none n told early = enters none (ap (λ b. not b || may_hold w client)
        (tests.or_false (here.walk.starts == 4) (λ e. early (sym (starts_is n told) ∙ eqb-true here.walk.starts 4 e))))

    pub root_open : mark_of w root ≡ None → w.gate ≡ None → IsWhyNot w (Descend client) None
    root_open none open_gate = enters none (ap (λ (o : Option ℕ). not (here.walk.starts == 4)
        || option_map_or (λ h. h == client) o true) open_gate ∙ last (not (here.walk.starts == 4)))
      where
        last : (b : Bool) → (b || true) ≡ true
        last true = refl
        last false = refl

    pub root_own : mark_of w root ≡ None → (holder : ℕ) → w.gate ≡ Some holder → holder ≡ client
        → IsWhyNot w (Descend client) None
    root_own none holder held own = enters none (ap (λ (o : Option ℕ). not (here.walk.starts == 4)
        || option_map_or (λ h. h == client) o true) held
        ∙ ap (λ b. not (here.walk.starts == 4) || b) (eq-eqb holder client own) ∙ last (not (here.walk.starts == 4)))
      where
        last : (b : Bool) → (b || true) ≡ true
        last true = refl
        last false = refl

  -- with names ahead
  module _ (more : has_names (station_in w client) ≡ true) where
    abbrev there : Stands w client (station_in w client)
    there = stands_so w client (station_in w client) refl (names_go (station_in w client) more)

    abbrev leg : (leg : Leg) × (turn there.walk.at ≡ Some leg) × (is_root leg.ahead ≡ false)
    leg = names_at there.walk.call there.walk.at (ap has_names there.there ∙ more)

    stopped : IsNowhere w client → is_blocked (shown w) leg.0.here leg.0.ahead ≡ true
    stopped none = no_further (shown w) (domain_of w client) leg.0 leg.2
        (none there.walk leg.0 there.is there.fresh leg.1)

    pub next_blocked : IsNowhere w client → IsWhyNot w (Descend client) (Some unmet.Blocked)
    next_blocked none = because w (Descend client) unmet.Blocked
        (there.walk, there.is, (leg.0, leg.1, stopped none))

    pub way_blocked : IsNowhere w client → IsWhyNot w (Commit client) None
    way_blocked none = commit_made w client there.walk there.is
        (may_commit_blocked w client there.walk there.is there.fresh
        (ap (λ o. option_map_or (leg_is_blocked (shown w)) o false) leg.1 ∙ stopped none))

    -- the slot is told of the directory that is next
    module _ (to : ℕ) (next : (from : ℕ) × IsNext b client from to) where
      on : GoesOn b client to leg.0
      on = goes_on b client to there.walk there.is leg.0 leg.1 next

      pub way_ahead : IsWhyNot w (Commit client) (Some unmet.Ahead)
      way_ahead = because w (Commit client) unmet.Ahead
          (there.walk, there.is, (leg.0, leg.1, is_some_of _ on.next on.further_is))

      module _ (held : Held) (lies : held ≡ slot_of b to) where
        inode_here : held.inode ≡ on.next.here
        inode_here = inode_is b to held lies ∙ on.to_there

        pub next_marked : (other : ℕ) → mark_of w held.inode ≡ Some other
            → IsWhyNot w (Descend client) (Some (unmet.Marked held.inode other))
        next_marked other e = because w (Descend client) (unmet.Marked held.inode other) (
          there.walk,
          there.is,
          (
            next_is w client there.walk there.is leg.0 on.next leg.1 on.further_is
                ∙ ap (λ i. Some i) (sym inode_here),
            marked_by w held.inode other e,
          ),
        )

        pub next_free : mark_of w held.inode ≡ None → IsWhyNot w (Descend client) None
        next_free none = descend_made w client there.walk there.is there.fresh leg.0 on.next leg.1 on.further_is
            (ap (is_marked w) (sym inode_here) ∙ unmarked w held.inode sound none)

-- ---- forks and restarts

module _ (w : World) (client : ℕ) where
  pub fork_idle : station_in w client ≡ station.Idle → IsWhyNot w (Fork client) (Some unmet.NoWalk)
  fork_idle e = because w (Fork client) unmet.NoWalk (none_idle w client e)

  pub fork_stale_now : station_in w client ≡ station.Stale → IsWhyNot w (Fork client) (Some unmet.Stale)
  fork_stale_now e = let it = is_stale w client e in because w (Fork client) unmet.Stale (it.0, it.1, it.2)

  pub fork_now : station_in w client ≡ station.Fork → IsWhyNot w (Fork client) None
  fork_now e =
      let here = stands_so w client station.Fork e refl in
      let down = at_fork here.walk.call here.walk.at here.there in
      fork_made w client here.walk here.is here.fresh
      (Split down.0 (toward down.0 (first_path here.walk.call)) (toward down.0 (second_path here.walk.call)))
      (ap (forked here.walk.call) down.1 ∙ (λ i. past here.walk.call down.0 (down.3 i && down.2 i)))

  pub fork_past : (place : Station) → station_in w client ≡ place → is_past place ≡ true
      → IsWhyNot w (Fork client) (Some unmet.Forked)
  fork_past place e p =
      let here = stands_so w client place e (past_goes place p) in
      let split = past_at here.walk.call here.walk.at (ap is_past here.there ∙ p) in
      because w (Fork client) unmet.Forked (here.walk, here.is, split)
    where
      past_goes : (place : Station) → is_past place ≡ true → goes place ≡ true
      past_goes station.First p = refl
      past_goes station.Second p = refl
      past_goes other p = absurd (cc p)

  -- with two paths or one
  module _ (place : Station) (e : station_in w client ≡ place) (moves : goes place ≡ true) (two : Bool)
      (told : (v : Walk) → get w.walks client ≡ Some v → two ≡ has_two_paths v.call) where
    abbrev stands : Stands w client place
    stands = stands_so w client place e moves

    pub fork_once : two ≡ false → IsWhyNot w (Fork client) (Some unmet.OnePath)
    fork_once one = because w (Fork client) unmet.OnePath
        (stands.walk, stands.is, sym (told stands.walk stands.is) ∙ one)

    pub fork_above : place ≡ station.Above → IsWhyNot w (Fork client) (Some unmet.Above)
    fork_above top = because w (Fork client) unmet.Above
        (stands.walk, stands.is, above stands.walk.call stands.walk.at (stands.there ∙ top))

    pub fork_ended : place ≡ station.End → two ≡ true → IsWhyNot w (Fork client) (Some unmet.Forked)
    fork_ended end both = because w (Fork client) unmet.Forked (
      stands.walk,
      stands.is,
      split_at stands.walk.call stands.walk.at (stands.there ∙ end)
          (sym (told stands.walk stands.is) ∙ both),
    )

  pub restart_idle : station_in w client ≡ station.Idle → IsWhyNot w (Restart client) (Some unmet.NoWalk)
  restart_idle e = because w (Restart client) unmet.NoWalk (none_idle w client e)

  pub restart_now : station_in w client ≡ station.Stale → IsWhyNot w (Restart client) None
  restart_now e = let it = is_stale w client e in restart_made w client it.0 it.1 it.2

  pub restart_not : (place : Station) → station_in w client ≡ place → goes place ≡ true
      → IsWhyNot w (Restart client) (Some unmet.NotStale)
  restart_not place e moves =
      let here = stands_so w client place e moves in
      because w (Restart client) unmet.NotStale (here.walk, here.is, here.fresh)

  pub descend_idle : station_in w client ≡ station.Idle → IsWhyNot w (Descend client) (Some unmet.NoWalk)
  descend_idle e = because w (Descend client) unmet.NoWalk (none_idle w client e)

  pub descend_stale_now : station_in w client ≡ station.Stale → IsWhyNot w (Descend client) (Some unmet.Stale)
  descend_stale_now e = let it = is_stale w client e in because w (Descend client) unmet.Stale (it.0, it.1, it.2)

  -- at the fork
  forks : (e : station_in w client ≡ station.Fork) → let here = stands_so w client station.Fork e refl in
      is_some (forked here.walk.call here.walk.at) ≡ true
  forks e =
      let here = stands_so w client station.Fork e refl in
      let down = at_fork here.walk.call here.walk.at here.there in
      ap is_some (ap (forked here.walk.call) down.1 ∙ (λ i. past here.walk.call down.0 (down.3 i && down.2 i)))

  pub descend_forks : station_in w client ≡ station.Fork → IsWhyNot w (Descend client) (Some unmet.AtFork)
  descend_forks e = let here = stands_so w client station.Fork e refl in
      because w (Descend client) unmet.AtFork (here.walk, here.is, forks e)

  pub descend_ended : station_in w client ≡ station.End → IsWhyNot w (Descend client) (Some unmet.AtEnd)
  descend_ended e = let here = stands_so w client station.End e refl in
      because w (Descend client) unmet.AtEnd (here.walk, here.is, ended_at here.walk.call here.walk.at here.there)

  -- ---- commits

  pub commit_idle : station_in w client ≡ station.Idle → IsWhyNot w (Commit client) (Some unmet.NoWalk)
  commit_idle e = because w (Commit client) unmet.NoWalk (none_idle w client e)

  pub commit_stale_now : station_in w client ≡ station.Stale → IsWhyNot w (Commit client) (Some unmet.Stale)
  commit_stale_now e = let it = is_stale w client e in because w (Commit client) unmet.Stale (it.0, it.1, it.2)

  pub commit_above : station_in w client ≡ station.Above → IsWhyNot w (Commit client) (Some unmet.Above)
  commit_above e = let here = stands_so w client station.Above e refl in
      because w (Commit client) unmet.Above (here.walk, here.is, above here.walk.call here.walk.at here.there)

  pub commit_forks : station_in w client ≡ station.Fork → IsWhyNot w (Commit client) (Some unmet.AtFork)
  commit_forks e = let here = stands_so w client station.Fork e refl in
      because w (Commit client) unmet.AtFork (here.walk, here.is, forks e)

  pub commit_free : station_in w client ≡ station.End → IsFree w client → IsWhyNot w (Commit client) None
  commit_free e free =
      let here = stands_so w client station.End e refl in
      let ends = ended_at here.walk.call here.walk.at here.there in
      commit_made w client here.walk here.is (may_commit_at_ends w client here.walk here.is here.fresh ends
      (free here.walk here.is here.fresh ends))

-- ---- on the way that two paths share

module _ (b : Book) (client : ℕ) (on_trunk : station_in b.world client ≡ station.Trunk) where
  abbrev trunk_stands : Stands b.world client station.Trunk
  trunk_stands = stands_so b.world client station.Trunk on_trunk refl

  abbrev down : (trunk : Leg) × (trunk_stands.walk.at ≡ Down trunk)
  down = trunk_at trunk_stands.walk.call trunk_stands.walk.at trunk_stands.there

  pub fork_blocked : IsNowhere b.world client → IsWhyNot b.world (Fork client) (Some unmet.Blocked)
  fork_blocked none =
      let leg = names_at trunk_stands.walk.call trunk_stands.walk.at (ap has_names trunk_stands.there) in
      let same : leg.0 ≡ down.0 = same_Some leg.0 down.0 (sym leg.1 ∙ ap turn down.1) in
      because b.world (Fork client) unmet.Blocked (
        trunk_stands.walk,
        trunk_stands.is,
        (
          down.0,
          down.1,
          no_further (shown b.world) (domain_of b.world client) down.0
              (ap (λ (l : Leg). is_root l.ahead) (sym same) ∙ leg.2)
              (none trunk_stands.walk down.0 trunk_stands.is trunk_stands.fresh (ap turn down.1)),
        ),
      )

  pub fork_ahead : (to : ℕ) → (from : ℕ) × IsNext b client from to → IsWhyNot b.world (Fork client) (Some unmet.Ahead)
  fork_ahead to next =
      let on = goes_on b client to trunk_stands.walk trunk_stands.is down.0 (ap turn down.1) next in
      because b.world (Fork client) unmet.Ahead
      (trunk_stands.walk, trunk_stands.is, (down.0, down.1, is_some_of _ on.next on.further_is))
