-- Each step of a walk brings it nearer to its answer.
use Rattle.std.specs.Prelude.{◌≡◌, ℕ, ◌+◌, ◌-◌, ◌*◌, ◌<◌, ◌≤◌, Bool, true, false, cond, not, ◌&&◌, ◌||◌, ◌==◌, List, []}
use Rattle.std.specs.Prelude.{◌∷◌, length, Option, Some, None, unwrap_or, option_map, option_and_then, ⊤, refl}
use Rattle.std.specs.Option.{option_map_or}
use Rattle.std.specs.Ordering.{nat_cmp}
use Rattle.std.specs.Cmp.{nat_cmp_total}
use Rattle.std.specs.FinMap.{nat_cmp-IsAntisymmetric}
use Rattle.std.proofs.Common.{sym, ap, subst, ◌∙◌, arith}
use Rattle.std.proofs.lemmas.List.{length-drop}
use Rattle.ll_rights.specs.Map.{Map, get, insert}
use Rattle.ll_rights.proofs.Maps.{get-insert_same}
use Rattle.ll_path.specs.Path.{Path, parent, is_root}
use Rattle.ll_seq.specs.declared.call.Call.{Call}
use Rattle.ll_seq.specs.Call.{first_path, second_path}
use Rattle.ll_seq.specs.State.{State, Name, root}
use Rattle.ll_rules.specs.Layer.{Layer}
use Rattle.ll_laws.proofs.Chains.{same_Some}
use Rattle.ll_laws.specs.declared.step.Step.TheVariants.{Descend, Fork, Restart}
use Rattle.ll_laws.specs.Walk.{Walk, Leg, Position, Above, Down, Split, further, further_by, turn, with_turn, forked}
use Rattle.ll_laws.specs.Walk.{is_above, has_two_paths, toward, directory_under, leg_below, trunk_path, first_leg}
use Rattle.ll_laws.specs.Walks.{AreFew}
use Rattle.ll_laws.specs.World.{World, Outcome, NotNow, Begun, Stands, Forked, Restarted, Replied, Joined, shown}
use Rattle.ll_laws.specs.World.{domain_of, is_marked, with_walk, enter, stand, descend, fork, restart, advance}
use Rattle.ll_laws.proofs.Shapes.{entered, may_hold, restarted, stood, walking}
use Rattle.ll_steps.specs.Left.{most_steps, way_left, walk_left, steps_left}

here : (m : Map nat_cmp Walk) (number : ℕ) (walk : Walk) → get (insert m number walk) number ≡ Some walk
here m number walk = get-insert_same nat_cmp_total nat_cmp-IsAntisymmetric m number walk

-- ---- one leg further

ahead_less : (s : State) (domain : List Layer) (leg lower : Leg) → further s domain leg ≡ Some lower
    → length lower.ahead < length leg.ahead
ahead_less s domain leg lower e = by leg.ahead e
  where
    below : (name : Name) (rest : Path) (o : Option ℕ) → option_map (leg_below domain leg name rest) o ≡ Some lower
        → length lower.ahead < length (name ∷ rest)
    below name rest None f = absurd (cc f)
    below name rest (Some inode) f = let same : rest ≡ lower.ahead =
        ap (λ (l : Leg). l.ahead) (same_Some (leg_below domain leg name rest inode) lower f) in
        subst (λ (p : Path). length p < length (name ∷ rest)) same (omega arith)

    by : (p : Path) → further_by s domain leg p ≡ Some lower → length lower.ahead < length p
    by [] f = absurd (cc f)
    by (name ∷ rest) f = below name rest (directory_under s leg.here name) f

turn_less : (s : State) (domain : List Layer) (call : Call) (at : Position) (lower : Leg)
    → option_and_then (further s domain) (turn at) ≡ Some lower → way_left call (with_turn at lower) < way_left call at
turn_less s domain call Above lower e = absurd (cc e)
turn_less s domain call (Down trunk) lower e = let less = ahead_less s domain trunk lower e in omega (arith, less)
turn_less s domain call (Split trunk old new) lower e =
    elim (is_root old.ahead) as (λ b. further s domain (cond b new old) ≡ Some lower
    → way_left call (cond b (Split trunk old lower) (Split trunk lower new)) < way_left call (Split trunk old new)) [
      | true ↦ λ f. let less = ahead_less s domain new lower f in omega (arith, less)
      | false ↦ λ f. let less = ahead_less s domain old lower f in omega (arith, less)
    ] e

fork_less : (call : Call) (at next : Position) → forked call at ≡ Some next → way_left call next < way_left call at
fork_less call Above next e = absurd (cc e)
fork_less call (Split trunk old new) next e = absurd (cc e)
fork_less call (Down trunk) next e =
    elim (has_two_paths call && is_root trunk.ahead) as (λ b. cond b (Some split) None ≡ Some next
    → way_left call next < way_left call (Down trunk)) [
      | true ↦ λ f. subst (λ (p : Position). way_left call p < way_left call (Down trunk)) (same_Some split next f) less
      | false ↦ λ f. absurd (cc f)
    ] e
  where
    split : Position
    split = Split trunk (toward trunk (first_path call)) (toward trunk (second_path call))

    less : way_left call (Split trunk (toward trunk (first_path call)) (toward trunk (second_path call))) < way_left
        call (Down trunk)
    less = omega (
      arith,
      length-drop (length trunk.walked) (parent (first_path call)),
      length-drop (length trunk.walked) (parent (second_path call)),
    )

-- ---- the walk that is under way

module _ (w : World) (client : ℕ) (walk : Walk) (is : get w.walks client ≡ Some walk) where
  -- what is left of it after the step
  nearer_so : (v : World) (new : Walk) → v.walks ≡ insert w.walks client new → walk_left new < walk_left walk
      → steps_left v client < steps_left w client
  nearer_so v new put less =
      let before : steps_left w client ≡ walk_left walk = ap (λ o. option_map_or walk_left o 0) is in
      let after : steps_left v client ≡ walk_left new =
      ap (λ (m : Map nat_cmp Walk). option_map_or walk_left (get m client) 0) put
      ∙ ap (λ o. option_map_or walk_left o 0) (here w.walks client new) in
      omega (arith, less, before, after)

  moved_on : (v : World) (at : Position) → v.walks ≡ insert w.walks client (record walk { at = at })
      → way_left walk.call at < way_left walk.call walk.at → steps_left v client < steps_left w client
  moved_on v at put less = nearer_so v (record walk { at = at }) put (omega (arith, less))

  again_less : walk.starts + 1 ≤ 4
      → walk_left (record walk { starts = walk.starts + 1; stale = false; at = Above }) < walk_left walk
  again_less few = by (4 - (walk.starts + 1)) refl
    where
      by : (k : ℕ) → 4 - (walk.starts + 1) ≡ k
          → (4 - (walk.starts + 1)) * (most_steps walk.call + 1) + most_steps walk.call < (4 - walk.starts) *
          (most_steps walk.call + 1) + way_left walk.call walk.at
      by k e =
          let one : 4 - walk.starts ≡ k + 1 = omega (arith, e, few) in
          subst (λ n. n * (most_steps walk.call + 1) + most_steps walk.call < (4 - walk.starts) *
          (most_steps walk.call + 1) + way_left walk.call walk.at) (sym e)
          (subst (λ n. k * (most_steps walk.call + 1) + most_steps walk.call < n * (most_steps walk.call + 1) + way_left
          walk.call walk.at) (sym one) (omega arith))

-- by the outcome; a restart needs that it isn't one too many
abbrev Nearer : World → ℕ → Outcome × World → Type 0
Nearer w client (NotNow, v) = ⊤
Nearer w client (Begun, v) = ⊤
Nearer w client (Stands inode, v) = steps_left v client < steps_left w client
Nearer w client (Forked, v) = steps_left v client < steps_left w client
Nearer w client (Restarted, v) = AreFew v → steps_left v client < steps_left w client
Nearer w client (Replied reply, v) = ⊤
Nearer w client (Joined number, v) = ⊤

of_walk : (w : World) (client : ℕ) (f : World → ℕ → Walk → Option (Outcome × World))
    → ((walk : Walk) → get w.walks client ≡ Some walk → Nearer w client (unwrap_or (f w client walk) (NotNow, w)))
    → Nearer w client (unwrap_or (walking w client f) (NotNow, w))
of_walk w client f each = by (get w.walks client) refl
  where
    by : (o : Option Walk) → get w.walks client ≡ o
        → Nearer w client (unwrap_or (option_and_then (f w client) o) (NotNow, w))
    by None e = tt
    by (Some walk) e = each walk e

fork_nearer : (w : World) (client : ℕ) (walk : Walk) → get w.walks client ≡ Some walk
    → Nearer w client (unwrap_or (fork w client walk) (NotNow, w))
fork_nearer w client walk is = by walk.stale (forked walk.call walk.at) refl
  where
    by : (a : Bool) (o : Option Position) → forked walk.call walk.at ≡ o
        → Nearer w client (unwrap_or (cond a None
        (option_map (λ at. (Forked, with_walk w client (record walk { at = at }))) o)) (NotNow, w))
    by true o e = tt
    by false None e = tt
    by false (Some at) e = moved_on w client walk is (with_walk w client (record walk { at = at })) at refl
        (fork_less walk.call walk.at at e)

enter_nearer : (w : World) (client : ℕ) (walk : Walk) → get w.walks client ≡ Some walk → is_above walk.at ≡ true
    → Nearer w client (unwrap_or (enter w client walk) (NotNow, w))
enter_nearer w client walk is high =
    elim (not (is_marked w root) && (not (walk.starts == 4) || may_hold w client)) as
    (λ b. Nearer w client (unwrap_or (cond b (Some (Stands root, entered w client walk)) None) (NotNow, w))) [
      | true ↦ moved_on w client walk is (entered w client walk)
          (Down (first_leg (domain_of w client) (trunk_path walk.call))) refl (by walk.at high)
      | false ↦ tt
    ]
  where
    by : (at : Position) → is_above at ≡ true
        → way_left walk.call (Down (first_leg (domain_of w client) (trunk_path walk.call))) < way_left walk.call at
    by Above e = omega arith
    by (Down trunk) e = absurd (cc e)
    by (Split trunk old new) e = absurd (cc e)

stand_nearer : (w : World) (client : ℕ) (walk : Walk) → get w.walks client ≡ Some walk → (o : Option Leg)
    → option_and_then (further (shown w) (domain_of w client)) (turn walk.at) ≡ o
    → Nearer w client (unwrap_or (option_and_then (stand w client walk) o) (NotNow, w))
stand_nearer w client walk is None e = tt
stand_nearer w client walk is (Some leg) e =
    elim (not (is_marked w leg.here)) as
    (λ b. Nearer w client (unwrap_or (cond b (Some (Stands leg.here, stood w client walk leg)) None) (NotNow, w))) [
      | true ↦ moved_on w client walk is (stood w client walk leg) (with_turn walk.at leg) refl
          (turn_less (shown w) (domain_of w client) walk.call walk.at leg e)
      | false ↦ tt
    ]

descend_nearer : (w : World) (client : ℕ) (walk : Walk) → get w.walks client ≡ Some walk
    → Nearer w client (unwrap_or (descend w client walk) (NotNow, w))
descend_nearer w client walk is = by walk.stale (is_above walk.at) refl
  where
    by : (a b : Bool) → is_above walk.at ≡ b
        → Nearer w client (unwrap_or (cond a None
        (cond b (enter w client walk)
        (option_and_then (stand w client walk)
        (option_and_then (further (shown w) (domain_of w client)) (turn walk.at))))) (NotNow, w))
    by true b e = tt
    by false true e = enter_nearer w client walk is e
    by false false e = stand_nearer w client walk is
        (option_and_then (further (shown w) (domain_of w client)) (turn walk.at)) refl

restart_nearer : (w : World) (client : ℕ) (walk : Walk) → get w.walks client ≡ Some walk
    → Nearer w client (unwrap_or (restart w client walk) (NotNow, w))
restart_nearer w client walk is =
    elim walk.stale as (λ b. Nearer w client
    (unwrap_or (cond b (Some (Restarted, restarted w client walk)) None) (NotNow, w))) [
      | true ↦ λ few. nearer_so w client walk is (restarted w client walk) again refl
          (again_less w client walk is (few client again (here w.walks client again)))
      | false ↦ tt
    ]
  where
    again : Walk
    again = record walk { starts = walk.starts + 1; stale = false; at = Above }

-- ---- each of the three

pub after_fork : (w v : World) (client : ℕ) → advance w (Fork client) ≡ (Forked, v)
    → steps_left v client < steps_left w client
after_fork w v client e = subst (Nearer w client) e (of_walk w client fork (fork_nearer w client))

pub after_descent : (w v : World) (client inode : ℕ) → advance w (Descend client) ≡ (Stands inode, v)
    → steps_left v client < steps_left w client
after_descent w v client inode e = subst (Nearer w client) e (of_walk w client descend (descend_nearer w client))

pub after_restart : (w v : World) (client : ℕ) → AreFew v → advance w (Restart client) ≡ (Restarted, v)
    → steps_left v client < steps_left w client
after_restart w v client few e = subst (Nearer w client) e (of_walk w client restart (restart_nearer w client)) few
