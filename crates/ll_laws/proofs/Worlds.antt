-- Over every list of steps the history is legal, and each walk that isn't stale is right in the shown state.
use Rattle.std.specs.Prelude.{◌≡◌, ◌≢◌, ◌⊎◌, ℕ, ◌+◌, Bool, true, false, cond, not, ◌&&◌, ◌==◌, List, [], ◌∷◌, ◌++◌, map}
use Rattle.std.specs.Prelude.{filter, Option, Some, None, is_some, unwrap_or, option_and_then, refl, ⊤}
use Rattle.std.specs.Ordering.{nat_cmp}
use Rattle.std.specs.List.{list_any, flat_map}
use Rattle.std.specs.Option.{option_map_or}
use Rattle.std.specs.Cmp.{nat_cmp_total}
use Rattle.std.specs.FinMap.{nat_cmp-IsAntisymmetric}
use Rattle.std.proofs.Common.{sym, subst, ap, ◌∙◌, inl, inr}
use Rattle.std.proofs.lemmas.Bool.{eqb-true, eq-eqb}
use Rattle.std.proofs.lemmas.List.{append-nil}
use Rattle.ll_rights.specs.Kind.{is_dir}
use Rattle.ll_rights.specs.Map.{Map, get, has, insert, remove}
use Rattle.ll_rights.proofs.Maps.{get-empty, got_inserted}
use Rattle.ll_path.specs.Path.{Path, parent, is_root}
use Rattle.ll_path.specs.declared.target.Target.{Target}
use Rattle.ll_rules.specs.Layer.{Layer}
use Rattle.ll_decide.specs.Verdict.{when}
use Rattle.ll_seq.specs.declared.call.Call.{Call}
use Rattle.ll_seq.specs.declared.call.Call.TheVariants.{Make, Open, Read, Write, Ftruncate, Close, Truncate, ReadDir}
use Rattle.ll_seq.specs.declared.call.Call.TheVariants.{Stat, Exec, Unlink, Rmdir, Rename, RenameNoreplace, Exchange}
use Rattle.ll_seq.specs.declared.call.Call.TheVariants.{Link, Ruleset, Allow, Confine, Spawn, Connect}
use Rattle.ll_seq.specs.declared.client.ClientRecord.{ClientRecord}
use Rattle.ll_seq.specs.declared.reply.Entry.{Entry}
use Rattle.ll_seq.specs.declared.reply.Reply.{Reply}
use Rattle.ll_seq.specs.declared.reply.Reply.TheVariants.{Done, Refused}
use Rattle.ll_seq.specs.declared.rules.Rules.{Rules}
use Rattle.ll_seq.specs.Call.{path_of, targets, first_path, second_path}
use Rattle.ll_seq.specs.State.{State, start, new_client}
use Rattle.ll_seq.specs.Tree.{inode_of, kind_or_file}
use Rattle.ll_seq.specs.Stages.{text_refusals, number_refusals, relation_refusals}
use Rattle.ll_seq.specs.Step.{step, refusals, first_or, client_of}
use Rattle.ll_seq.specs.History.{IsLegal, MayStand, is_connect, fresh_of}
use Rattle.ll_seq.proofs.Consequences.{step-clients_stay}
use Rattle.ll_seq.proofs.Histories.{after_push, legal_append}
use Rattle.ll_seq.proofs.Parted.{or_left, or_right}
use Rattle.ll_laws.proofs.Chains.{same_Some}
use Rattle.ll_laws.proofs.Unrefused.{nil_left, nil_map}
use Rattle.ll_laws.proofs.Trees.{IsTree}
use Rattle.ll_laws.proofs.Gain.{done_of, passes, start_tree, after_tree}
use Rattle.ll_laws.specs.Walk.{Walk, Leg, Position, Above, Down, Split, is_in, trunk_path, toward, legs, turn}
use Rattle.ll_laws.specs.Walk.{with_turn, further, forked, at_ends, has_two_paths, marks, passes as walk_passes}
use Rattle.ll_laws.specs.Walk.{first_leg}
use Rattle.ll_laws.specs.World.{World, new_world, shown, is_done, takes_gate, domain_of, has_any, is_walked, is_idle}
use Rattle.ll_laws.specs.World.{is_marked_by_other, may_commit, last_node, last_nodes, moving, moved_by, is_same_node}
use Rattle.ll_laws.specs.World.{map_values, overtaken, released, next_number, reply_to, world_after}
use Rattle.ll_seq.specs.Stages.{early_refusals}
use Rattle.ll_laws.specs.declared.step.Step.{Step}
use Rattle.ll_laws.specs.Walks.{AreRight, AreOnPaths, IsUnderWay, AfterSteps, AreValid}
use Rattle.ll_laws.specs.Sound.{AreNumbered}
use Rattle.ll_laws.proofs.Shapes.{leg_is_blocked}
use Rattle.ll_laws.proofs.Tests.{both, second, not_true, or_false, is_nil, none_of}
use Rattle.ll_laws.proofs.OneCall.{stands, step_again, step_clients, other_client, unused, numbered}
use Rattle.ll_laws.proofs.CarriedMasks.{first_right, toward_right, further_right, further_same}
use Rattle.ll_laws.proofs.Ways.{common_left, common_right, rest_of, not_blocked}
use Rattle.ll_laws.proofs.Legs.{LeavesLeg, leg_kept}
use Rattle.ll_laws.proofs.Turns.{Keeps, steps_kept}
use Rattle.ll_laws.proofs.WalkMaps.{found, was_other, not_overtaken}

-- ---- maps of walks
-- ---- what holds of every world

pub record Holds (w : World) : Type 0 where
  pub legal : IsLegal (start w.rules w.room) w.history
  pub numbers : AreNumbered (shown w)
  pub under_way : (number : ℕ) (walk : Walk) → get w.walks number ≡ Some walk → IsUnderWay w number walk
  pub right : (number : ℕ) (walk : Walk) → get w.walks number ≡ Some walk → walk.stale ≡ false
      → AreRight (shown w) (domain_of w number) walk.at

pub tree_of : (w : World) → IsTree (shown w)
tree_of w = after_tree (start w.rules w.room) w.history (start_tree w.rules w.room)

-- the state is the same, and one walk is new
put_walk : (w : World) (number : ℕ) (walk : Walk) (gate : Option ℕ) → Holds w → has (shown w).clients number ≡ true
    → is_walked (client_of (shown w) number) walk.call ≡ true → AreOnPaths walk.call walk.at
    → (walk.stale ≡ false → AreRight (shown w) (domain_of w number) walk.at)
    → Holds (record w { walks = insert w.walks number walk; gate = gate })
put_walk w number walk gate h there walked paths right = record {
  legal = h.legal;
  numbers = h.numbers;
  under_way = λ c v e.
      let old = h.under_way c v in
      let u = by (λ c v. (has (shown w).clients c ≡ true) × (is_walked (client_of (shown w) c) v.call ≡ true)
      × AreOnPaths v.call v.at) c v e (there, walked, paths)
      (λ g. ((old g).there, (old g).walked, (old g).on_paths)) in
      record { there = u.0; walked = u.1; on_paths = u.2 };
  right = λ c v e. by (λ c v. v.stale ≡ false → AreRight (shown w) (domain_of w c) v.at) c v e right (h.right c v);
}
  where
    by : (P : ℕ → Walk → Type 0) (c : ℕ) (v : Walk) → get (insert w.walks number walk) c ≡ Some v → P number walk
        → (get w.walks c ≡ Some v → P c v) → P c v
    by P c v e new old = elim (got_inserted nat_cmp_total nat_cmp-IsAntisymmetric w.walks number walk c v e) [
      | inl a ↦ subst (λ x. P x v) (sym a.0) (subst (λ y. P number y) (sym a.1) new)
      | inr a ↦ old a
    ]

-- ---- the world after an entry

abbrev LeavesWalk : State → ℕ → Call → Position → Type 0
LeavesWalk s number call Above = ⊤
LeavesWalk s number call (Down trunk) = LeavesLeg s number call trunk
LeavesWalk s number call (Split trunk old new) =
    LeavesLeg s number call trunk × LeavesLeg s number call old × LeavesLeg s number call new

position_kept : (s : State) (number : ℕ) (call : Call) (fresh : ℕ) → IsTree s → IsTree (step s number call fresh).1
    → (domain : List Layer) (at : Position) → AreRight s domain at → LeavesWalk s number call at
    → AreRight (step s number call fresh).1 domain at
position_kept s number call fresh tree grown domain Above r l = tt
position_kept s number call fresh tree grown domain (Down trunk) r l =
    leg_kept s number call fresh tree grown domain trunk r l
position_kept s number call fresh tree grown domain (Split trunk old new) r l = (
  leg_kept s number call fresh tree grown domain trunk r.0 l.0,
  leg_kept s number call fresh tree grown domain old r.1 l.1,
  leg_kept s number call fresh tree grown domain new r.2 l.2,
)

-- the caller is there, or is the one that connects
abbrev Calls : World → ℕ → Call → Reply → Type 0
Calls w number call reply = ((has (shown w).clients number ≡ true) × (is_connect call ≡ false))
    ⊎ ((number ≡ next_number w) × (is_connect call ≡ true) × (reply ≡ Done))

-- the walks that are left are those of others, which the call leaves, or they are stale
module _ (w : World) (number : ℕ) (call : Call) (reply : Reply) (h : Holds w) (caller : Calls w number call reply)
    (answer : reply ≡ (step (shown w) number call (next_number w)).0)
    (walks : Map nat_cmp Walk) (gate : Option ℕ)
    (others : (c : ℕ) (v : Walk) → get walks c ≡ Some v → (c ≢ number) × (u : Walk) × (get w.walks c ≡ Some u)
    × (v.call ≡ u.call) × (v.at ≡ u.at)
    × (v.stale ≡ false → (u.stale ≡ false) × LeavesWalk (shown w) number call u.at)) where
  abbrev entry : Entry
  entry = record { client = number; call = call; reply = reply }

  abbrev next : World
  next = record w { history = w.history ++ entry ∷ []; walks = walks; gate = gate }

  abbrev s : State
  s = shown w

  abbrev t : State
  t = (step s number call (next_number w)).1

  -- the tree is what the call made it
  shown_next : shown next ≡ t
  shown_next =
      after_push (start w.rules w.room) w.history entry
      ∙ ap (λ r. (step s number call (fresh_of r)).1) answer
      ∙ ap (λ (p : Reply × State). p.1) (step_again s number call (next_number w))

  grown : IsTree t
  grown = subst IsTree shown_next (tree_of next)

  free : has s.clients (next_number w) ≡ false
  free = unused s h.numbers

  may_stand : MayStand s entry
  may_stand = stands s number call (next_number w) reply answer free (elim caller [
    | inl a ↦ inl a
    | inr a ↦ inr (ap (has s.clients) a.0 ∙ free, a.1, a.2)
  ])

  same_client : (c : ℕ) → c ≢ number → has s.clients c ≡ true → get t.clients c ≡ get s.clients c
  same_client c n g = other_client s t number (next_number w) (step_clients s number call (next_number w)) c n
      (λ e. cc (sym g ∙ ap (has s.clients) e ∙ free))

  entry_holds : Holds next
  entry_holds = record {
    legal = legal_append (start w.rules w.room) w.history entry h.legal may_stand;
    numbers = subst AreNumbered (sym shown_next)
        (numbered s t number h.numbers (elim caller [ inl a ↦ inl a.0 | inr a ↦ inr a.0 ])
        (step_clients s number call (next_number w)));
    under_way = λ c v e.
        let o = others c v e in
        let u = h.under_way c o.1 o.2 in
        let client : client_of t c ≡ client_of s c =
        ap (λ (k : Option ClientRecord). unwrap_or k new_client) (same_client c o.0 u.there) in
        record {
          there = subst (λ z. has z.clients c ≡ true) (sym shown_next)
              (step-clients_stay s number call (next_number w) c u.there);
          walked = ap (λ k. is_walked (client_of (shown next) c) k) o.3
              ∙ ap (λ z. is_walked (client_of z c) o.1.call) shown_next ∙ ap (λ k. is_walked k o.1.call) client
              ∙ u.walked;
          on_paths = subst (λ k. AreOnPaths k v.at) (sym o.3) (subst (AreOnPaths o.1.call) (sym o.4) u.on_paths);
        };
    right = λ c v e fresh.
        let o = others c v e in
        let more = o.5 fresh in
        let now : AreRight t (domain_of w c) o.1.at =
        position_kept s number call (next_number w) (tree_of w) grown (domain_of w c) o.1.at
        (h.right c o.1 o.2 more.0) more.1 in
        let domain : (client_of t c).domain ≡ (client_of s c).domain =
        ap (λ (k : Option ClientRecord). (unwrap_or k new_client).domain)
        (same_client c o.0 (h.under_way c o.1 o.2).there) in
        subst (λ z. AreRight z (client_of z c).domain v.at) (sym shown_next)
        (subst (λ d. AreRight t d v.at) (sym domain) (subst (AreRight t (domain_of w c)) (sym o.4) now));
  }

-- ---- what a call leaves

leaves_all : (s : State) (number : ℕ) (call : Call) (at : Position) → ((leg : Leg) → LeavesLeg s number call leg)
    → LeavesWalk s number call at
leaves_all s number call Above f = tt
leaves_all s number call (Down trunk) f = f trunk
leaves_all s number call (Split trunk old new) f = (f trunk, f old, f new)

pub when_nil : (b : Bool) → when {A = ℕ} b [] ≡ []
when_nil true = refl
when_nil false = refl

-- a call without paths moves nothing
still : (call : Call) → targets call ≡ [] → moving call ≡ []
still (Make k t) e = refl
still (Open mode t) e = refl
still (Read fd offset count) e = refl
still (Write fd offset bytes) e = refl
still (Ftruncate fd size) e = refl
still (Close fd) e = refl
still (Truncate t size) e = refl
still (ReadDir t) e = refl
still (Stat t) e = refl
still (Exec t) e = refl
still (Unlink t) e = refl
still (Rmdir t) e = refl
still (Rename o n) e = absurd (cc e)
still (RenameNoreplace o n) e = absurd (cc e)
still (Exchange o n) e = absurd (cc e)
still (Link o n) e = refl
still (Ruleset rights) e = refl
still (Allow rs t rights) e = refl
still (Confine rs) e = refl
still Spawn e = refl
still Connect e = refl

pub moved_nothing : (s : State) (call : Call) (reply : Reply) → moving call ≡ [] → moved_by s call reply ≡ []
moved_nothing s call reply e =
    ap (λ (ps : List Path). when (is_done reply && not (is_same_node s (first_path call) (second_path call)))
    (filter (λ inode. is_dir (kind_or_file s inode)) (map (inode_of s) ps))) e
    ∙ when_nil _

-- a call that isn't refused moves what one does that is told `Done`
done_moves : (s : State) (number : ℕ) (c : ClientRecord) (call : Call) (fresh : ℕ)
    → moved_by s call (done_of s number c call fresh).0 ≡ moved_by s call Done
done_moves s number c (Make k t) fresh = refl
done_moves s number c (Open mode t) fresh = sym (moved_nothing s (Open mode t) Done refl)
done_moves s number c (Read fd offset count) fresh = sym (moved_nothing s (Read fd offset count) Done refl)
done_moves s number c (Write fd offset bytes) fresh = sym (moved_nothing s (Write fd offset bytes) Done refl)
done_moves s number c (Ftruncate fd size) fresh = refl
done_moves s number c (Close fd) fresh = refl
done_moves s number c (Truncate t size) fresh = refl
done_moves s number c (ReadDir t) fresh = sym (moved_nothing s (ReadDir t) Done refl)
done_moves s number c (Stat t) fresh = sym (moved_nothing s (Stat t) Done refl)
done_moves s number c (Exec t) fresh = refl
done_moves s number c (Unlink t) fresh = refl
done_moves s number c (Rmdir t) fresh = refl
done_moves s number c (Rename o n) fresh = refl
done_moves s number c (RenameNoreplace o n) fresh = refl
done_moves s number c (Exchange o n) fresh = refl
done_moves s number c (Link o n) fresh = refl
done_moves s number c (Ruleset rights) fresh = sym (moved_nothing s (Ruleset rights) Done refl)
done_moves s number c (Allow rs t rights) fresh = refl
done_moves s number c (Confine rs) fresh = refl
done_moves s number c Spawn fresh = sym (moved_nothing s Spawn Done refl)
done_moves s number c Connect fresh = refl

step_moves : (s : State) (number : ℕ) (call : Call) (fresh : ℕ) → refusals s (client_of s number) call ≡ []
    → moved_by s call (step s number call fresh).0 ≡ moved_by s call Done
step_moves s number call fresh e =
    ap (λ rs. moved_by s call (first_or s rs (done_of s number (client_of s number) call fresh)).0) e
    ∙ done_moves s number (client_of s number) call fresh

-- one without a walk that isn't refused early names no path
nowhere : (s : State) (number : ℕ) (call : Call) → is_walked (client_of s number) call ≡ false
    → refusals s (client_of s number) call ≡ [] → targets call ≡ []
nowhere s number call e none = is_nil (targets call) (walks (has_any (early_refusals c call)) refl e)
  where
    c : ClientRecord
    c = client_of s number

    text : text_refusals call ≡ []
    text = nil_map Refused _ (nil_left _ _
        (nil_left _ _ (nil_left _ _ (nil_left _ _ (nil_left _ _ (nil_left _ _ (nil_left _ _ none)))))))

    early : (text_refusals call ++ number_refusals c call
        ++ relation_refusals call (first_path call) (second_path call)) ≡ []
    early =
        ap (λ xs. xs ++ number_refusals c call ++ relation_refusals call (first_path call) (second_path call)) text
        ∙ ap (λ xs. xs ++ relation_refusals call (first_path call) (second_path call)) (passes s c call none).numbers
        ∙ (passes s c call none).relation

    walks : (b : Bool) → has_any (early_refusals c call) ≡ b → (has_any (targets call) && not b) ≡ false
        → has_any (targets call) ≡ false
    walks true is f = absurd (cc (sym is ∙ ap has_any early))
    walks false is f = and_true (has_any (targets call)) f
      where
        and_true : (a : Bool) → (a && true) ≡ false → a ≡ false
        and_true true g = absurd (cc g)
        and_true false g = refl

-- so it has no last node
pub unwalked_away : (s : State) (number : ℕ) (call : Call) (i : ℕ) → is_walked (client_of s number) call ≡ false
    → refusals s (client_of s number) call ≡ [] → is_in (last_nodes s call) i ≡ false
unwalked_away s number call i e none =
    ap (λ ts. is_in (flat_map (λ (t : Target). last_node s (path_of t)) ts) i) (nowhere s number call e none)

leaves_unwalked : (s : State) (number : ℕ) (call : Call) (leg : Leg) → is_walked (client_of s number) call ≡ false
    → LeavesLeg s number call leg
leaves_unwalked s number call leg e none = (
  λ j g. ap (λ xs. is_in xs j) (moved_nothing s call Done (still call (nowhere s number call e none))),
  unwalked_away s number call leg.here e none,
)

-- another walk's legs, where a walk may be answered
module _ (w : World) (number : ℕ) (walk : Walk) (h : Holds w) (is : get w.walks number ≡ Some walk)
    (may : may_commit w number walk ≡ true) where
  abbrev moved : List ℕ
  moved = moved_by (shown w) walk.call (reply_to w number walk.call)

  not_stale : walk.stale ≡ false
  not_stale = not_true _ (both (not walk.stale) _ may).0

  -- if the call isn't refused, no other walk marks a last node
  unmarked : refusals (shown w) (client_of (shown w) number) walk.call ≡ []
      → list_any (is_marked_by_other w number) (last_nodes (shown w) walk.call) ≡ false
  unmarked none =
      let free = not_blocked (shown w) (domain_of w number) walk.call walk.at
      (passes (shown w) (client_of (shown w) number) walk.call none).way (h.under_way number walk is).on_paths
      (h.right number walk is not_stale) in
      let ends = second (option_map_or (leg_is_blocked (shown w)) (turn walk.at) false)
      (at_ends walk.call walk.at && not (list_any (is_marked_by_other w number) (last_nodes (shown w) walk.call)))
      free (both (not walk.stale) _ may).1 in
      not_true _ (both (at_ends walk.call walk.at) _ ends).1

  -- so what another walk marks isn't one
  pub marked_away : (c : ℕ) (u : Walk) → c ≢ number → get w.walks c ≡ Some u → (i : ℕ) → marks u i ≡ true
      → refusals (shown w) (client_of (shown w) number) walk.call ≡ []
      → is_in (last_nodes (shown w) walk.call) i ≡ false
  marked_away c u other there i m none =
      or_false _ (λ among. cc (sym (none_of (is_marked_by_other w number) (last_nodes (shown w) walk.call) i
      (unmarked none) among)
      ∙ found w.walks (λ e. not (e.0 == number) && marks e.1 i) c u there
      (ap (λ b. not b && marks u i) (or_false _ (λ f. other (eqb-true c number f))) ∙ m)))

  module _ (c : ℕ) (u : Walk) (other : c ≢ number) (there : get w.walks c ≡ Some u)
      (not_passed : list_any (walk_passes u) moved ≡ false) where
    leaves_leg : (leg : Leg) → ((f : Leg → Bool) → f leg ≡ true → list_any f (legs u.at) ≡ true)
        → LeavesLeg (shown w) number walk.call leg
    leaves_leg leg among none = (
      λ j g. or_false _ (λ i. cc (sym (among (λ l. is_in l.chain j) g)
          ∙ none_of (walk_passes u) moved j not_passed
          (ap (λ xs. is_in xs j) (step_moves (shown w) number walk.call (next_number w) none) ∙ i))),
      marked_away c u other there leg.here (among (λ l. l.here == leg.here) (eq-eqb leg.here leg.here refl)) none,
    )

    leaves : (at : Position) → u.at ≡ at → LeavesWalk (shown w) number walk.call at
    leaves Above e = tt
    leaves (Down trunk) e = leaves_leg trunk (λ f g. ap (λ p. list_any f (legs p)) e ∙ or_left (f trunk) false g)
    leaves (Split trunk old new) e = (
      leaves_leg trunk (λ f g. ap (λ p. list_any f (legs p)) e ∙ or_left (f trunk) (list_any f (old ∷ new ∷ [])) g),
      leaves_leg old (λ f g. ap (λ p. list_any f (legs p)) e
          ∙ or_right (f trunk) (list_any f (old ∷ new ∷ [])) (or_left (f old) (list_any f (new ∷ [])) g)),
      leaves_leg new (λ f g. ap (λ p. list_any f (legs p)) e
          ∙ or_right (f trunk) (list_any f (old ∷ new ∷ []))
          (or_right (f old) (list_any f (new ∷ [])) (or_left (f new) false g))),
    )

-- ---- steps of a walk

-- the leg in turn goes on
turn_right : (s : State) (domain : List Layer) (at : Position) (lower : Leg) → AreRight s domain at
    → option_and_then (further s domain) (turn at) ≡ Some lower → AreRight s domain (with_turn at lower)
turn_right s domain Above lower r e = tt
turn_right s domain (Down trunk) lower r e = further_right s domain trunk lower r e
turn_right s domain (Split trunk old new) lower r e =
    elim (is_root old.ahead) as (λ b. further s domain (cond b new old) ≡ Some lower
    → AreRight s domain (cond b (Split trunk old lower) (Split trunk lower new))) [
      | true ↦ λ f. (r.0, r.1, further_right s domain new lower r.2 f)
      | false ↦ λ f. (r.0, further_right s domain old lower r.1 f, r.2)
    ] e

turn_paths : (s : State) (domain : List Layer) (call : Call) (at : Position) (lower : Leg) → AreOnPaths call at
    → option_and_then (further s domain) (turn at) ≡ Some lower → AreOnPaths call (with_turn at lower)
turn_paths s domain call Above lower r e = tt
turn_paths s domain call (Down trunk) lower r e = further_same s domain trunk lower e ∙ r
turn_paths s domain call (Split trunk old new) lower r e =
    elim (is_root old.ahead) as (λ b. further s domain (cond b new old) ≡ Some lower
    → AreOnPaths call (cond b (Split trunk old lower) (Split trunk lower new))) [
      | true ↦ λ f. (r.0, r.1, further_same s domain new lower f ∙ r.2)
      | false ↦ λ f. (r.0, further_same s domain old lower f ∙ r.1, r.2)
    ] e

-- the fork
fork_fits : (s : State) (domain : List Layer) (call : Call) (at next : Position) → AreOnPaths call at
    → forked call at ≡ Some next → AreOnPaths call next × (AreRight s domain at → AreRight s domain next)
fork_fits s domain call Above next on e = absurd (cc e)
fork_fits s domain call (Split a b c) next on e = absurd (cc e)
fork_fits s domain call (Down trunk) next on e =
    elim (has_two_paths call) as (λ a. cond (a && is_root trunk.ahead) (Some split) None ≡ Some next
    → AreOnPaths call next × (AreRight s domain (Down trunk) → AreRight s domain next)) [
      | true ↦ λ f. by (is_root trunk.ahead) refl f
      | false ↦ λ f. absurd (cc f)
    ] e
  where
    old : Path
    old = parent (first_path call)

    new : Path
    new = parent (second_path call)

    split : Position
    split = Split trunk (toward trunk (first_path call)) (toward trunk (second_path call))

    empty_path : (p : Path) → is_root p ≡ true → p ≡ []
    empty_path [] g = refl
    empty_path (m ∷ p) g = absurd (cc g)

    by : (b : Bool) → is_root trunk.ahead ≡ b → cond b (Some split) None ≡ Some next → AreOnPaths call next
        × (AreRight s domain (Down trunk) → AreRight s domain next)
    by true is f =
        let same : split ≡ next = same_Some _ _ f in
        let here : trunk.walked ≡ trunk_path call =
        sym (append-nil trunk.walked) ∙ ap (λ p. trunk.walked ++ p) (sym (empty_path trunk.ahead is)) ∙ on in
        let l = common_left old new in
        let r = common_right old new in (
          subst (AreOnPaths call) same (
            here,
            rest_of trunk.walked old (l.0, ap (λ c. c ++ l.0) here ∙ l.1),
            rest_of trunk.walked new (r.0, ap (λ c. c ++ r.0) here ∙ r.1),
          ),
          λ k. subst (AreRight s domain) same
              (k, toward_right s domain trunk (first_path call) k, toward_right s domain trunk (second_path call) k),
        )
    by false is f = absurd (cc f)

-- ---- all steps

idle : (w : World) (number : ℕ) → is_idle w number ≡ true → (has (shown w).clients number ≡ true)
    × (has w.walks number ≡ false)
idle w number e = let b = both (has (shown w).clients number) (not (has w.walks number)) e in (b.0, not_true _ b.1)

pub holds_on : Keeps Holds
holds_on = record {
  begins = λ w number call h i walked g.
      put_walk w number (record { call = call; starts = 1; stale = false; at = Above })
      (cond (takes_gate call) (Some number) w.gate) h (idle w number i).0 walked tt (λ f. tt);
  enters = λ w number walk h is fresh high free gate.
      let u = h.under_way number walk is in
      put_walk w number (record walk { at = Down (first_leg (domain_of w number) (trunk_path walk.call)) })
      (cond (walk.starts == 4) (Some number) w.gate) h u.there u.walked refl
      (λ f. first_right (shown w) (tree_of w) (domain_of w number) (trunk_path walk.call));
  stands = λ w number walk leg h is fresh low e free.
      let u = h.under_way number walk is in
      put_walk w number (record walk { at = with_turn walk.at leg }) w.gate h u.there u.walked
      (turn_paths (shown w) (domain_of w number) walk.call walk.at leg u.on_paths e)
      (λ f. turn_right (shown w) (domain_of w number) walk.at leg (h.right number walk is fresh) e);
  forks = λ w number walk at h is fresh e.
      let u = h.under_way number walk is in
      let fits = fork_fits (shown w) (domain_of w number) walk.call walk.at at u.on_paths e in
      put_walk w number (record walk { at = at }) w.gate h u.there u.walked fits.0
      (λ f. fits.1 (h.right number walk is fresh));
  restarts = λ w number walk h is stale.
      let u = h.under_way number walk is in
      put_walk w number (record walk { starts = walk.starts + 1; stale = false; at = Above }) w.gate h u.there u.walked
      tt (λ f. tt);
  gives_up = λ w number walk h is. record {
    legal = h.legal;
    numbers = h.numbers;
    under_way = λ c v e.
        let o = was_other w number [] c v e in
        let u = h.under_way c o.1 o.2 in
        record {
          there = u.there;
          walked = ap (λ (x : Walk). is_walked (client_of (shown w) c) x.call) (sym o.3) ∙ u.walked;
          on_paths = subst (λ (x : Walk). AreOnPaths x.call x.at) o.3 u.on_paths;
        };
    right = λ c v e f. let o = was_other w number [] c v e in
        subst (λ (x : Walk). AreRight (shown w) (domain_of w c) x.at) o.3
        (h.right c o.1 o.2 (not_overtaken [] o.1 v o.3 f).0);
  };
  commits = λ w number walk h is may not_full.
      let gone = moved_by (shown w) walk.call (reply_to w number walk.call) in
      entry_holds w number walk.call (reply_to w number walk.call) h
      (inl (
        (h.under_way number walk is).there,
        no_connect (client_of (shown w) number) walk.call (h.under_way number walk is).walked,
      )) refl
      (map_values (overtaken gone) (remove w.walks number)) (released w.gate number)
      (λ c v e.
      let o = was_other w number gone c v e in (
        o.0,
        o.1,
        o.2,
        ap (λ (x : Walk). x.call) (sym o.3),
        ap (λ (x : Walk). x.at) (sym o.3),
        λ f. let n = not_overtaken gone o.1 v o.3 f in
            (n.0, leaves w number walk h is may c o.1 o.0 o.2 n.1 o.1.at refl),
      ));
  calls = λ w number call h i plain unwalked not_full.
      let at = idle w number i in
      entry_holds w number call (reply_to w number call) h (inl (at.0, plain)) refl w.walks w.gate
      (λ c v e. (
        λ same. cc (sym at.1 ∙ ap (has w.walks) (sym same) ∙ ap is_some e),
        v,
        e,
        refl,
        refl,
        λ f. (f, leaves_all (shown w) number call v.at (λ leg. leaves_unwalked (shown w) number call leg unwalked)),
      ));
  joins = λ w h not_full answer.
      entry_holds w (next_number w) Connect Done h (inr (refl, refl, refl)) (sym answer) w.walks w.gate
      (λ c v e. (
        λ same. cc (sym (h.under_way c v e).there ∙ ap (has (shown w).clients) same ∙ unused (shown w) h.numbers),
        v,
        e,
        refl,
        refl,
        λ f. (
          f,
          leaves_all (shown w) (next_number w) Connect v.at
              (λ leg. leaves_unwalked (shown w) (next_number w) Connect leg refl),
        ),
      ));
}
  where
    no_connect : (c : ClientRecord) (call : Call) → is_walked c call ≡ true → is_connect call ≡ false
    no_connect c call e = or_false (is_connect call)
        (λ f. cc (sym (both (has_any (targets call)) _ e).0 ∙ connects call f))
      where
        connects : (k : Call) → is_connect k ≡ true → has_any (targets k) ≡ false
        connects Connect f = refl
        connects _ f = absurd (cc f)

pub starts : (rules : Rules) (room limit : ℕ) → Holds (new_world rules room limit)
starts rules room limit = record {
  legal = tt;
  numbers = λ c e. absurd (cc (sym e ∙ ap is_some (get-empty ClientRecord nat_cmp c)));
  under_way = λ c v e. absurd (cc (sym e ∙ get-empty Walk nat_cmp c));
  right = λ c v e f. absurd (cc (sym e ∙ get-empty Walk nat_cmp c));
}

pub still_hold : (w : World) (steps : List Step) → Holds w → Holds (world_after w steps)
still_hold w steps h = steps_kept Holds holds_on w steps h

pub all_hold : (rules : Rules) (room limit : ℕ) (steps : List Step)
    → Holds (world_after (new_world rules room limit) steps)
all_hold rules room limit steps = still_hold (new_world rules room limit) steps (starts rules room limit)

pub walks_are_valid : AfterSteps AreValid
walks_are_valid rules room limit steps =
    let h = all_hold rules room limit steps in
    λ number walk is. (h.under_way number walk is, h.right number walk is)
