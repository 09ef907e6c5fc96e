-- The move gate: few starts, and no overtaking of who holds it.
use Rattle.std.specs.Prelude.{◌≡◌, ◌≢◌, ℕ, ◌+◌, ◌≤◌, Bool, true, false, cond, not, ◌&&◌, ◌||◌, ◌==◌, List, [], ◌∷◌}
use Rattle.std.specs.Prelude.{Option, Some, None, is_none, refl}
use Rattle.std.specs.Ordering.{nat_cmp}
use Rattle.std.specs.List.{list_any}
use Rattle.std.specs.Option.{option_map_or}
use Rattle.std.specs.Cmp.{nat_cmp_total}
use Rattle.std.specs.FinMap.{nat_cmp-IsAntisymmetric}
use Rattle.std.proofs.Common.{sym, subst, ap, ◌∙◌, inl, inr, arith}
use Rattle.std.proofs.lemmas.Bool.{eq-eqb, eqb-true}
use Rattle.ll_rights.specs.Map.{get, insert, remove}
use Rattle.ll_rights.proofs.Maps.{get-empty, insert_cases}
use Rattle.ll_seq.specs.declared.call.Call.{Call}
use Rattle.ll_seq.specs.declared.rules.Rules.{Rules}
use Rattle.ll_seq.proofs.Parted.{or_right}
use Rattle.ll_laws.proofs.Chains.{same_Some}
use Rattle.ll_laws.specs.Walk.{Walk, Position, Above, Down, Split, trunk_path, first_leg, with_turn, forked, is_above}
use Rattle.ll_laws.specs.Walk.{passes}
use Rattle.ll_laws.specs.World.{World, new_world, world_after, shown, domain_of, takes_gate, moving, map_values}
use Rattle.ll_laws.specs.World.{overtaken, released, moved_by, reply_to}
use Rattle.ll_laws.specs.declared.step.Step.{Step}
use Rattle.ll_laws.specs.Walks.{needs_gate, AfterSteps, AreFew, GateIsHeld}
use Rattle.ll_laws.proofs.Shapes.{may_hold}
use Rattle.ll_laws.proofs.Tests.{or_false, is_nil}
use Rattle.ll_laws.proofs.Worlds.{moved_nothing}
use Rattle.ll_laws.proofs.WalkMaps.{was_other}
use Rattle.ll_laws.proofs.Turns.{Keeps, steps_kept}

pub record IsGood (gate : Option ℕ) (number : ℕ) (walk : Walk) : Type 0 where
  pub few : walk.starts ≤ 4
  pub held : needs_gate walk ≡ true → gate ≡ Some number
  pub fresh : needs_gate walk ≡ true → walk.stale ≡ false
  pub above : is_above walk.at ≡ true → walk.stale ≡ false

abbrev pub Gated : World → Type 0
Gated w = (number : ℕ) (walk : Walk) → get w.walks number ≡ Some walk → IsGood w.gate number walk

with_gate : (g k : Option ℕ) (number : ℕ) (walk : Walk) → IsGood g number walk → (g ≡ Some number → k ≡ Some number)
    → IsGood k number walk
with_gate g k number walk h f = record { few = h.few; held = λ n. f (h.held n); fresh = h.fresh; above = h.above }

-- one walk is new, and who has the gate keeps it
put_good : (w : World) (number : ℕ) (walk : Walk) (gate : Option ℕ) → Gated w → IsGood gate number walk
    → ((c : ℕ) → c ≢ number → w.gate ≡ Some c → gate ≡ Some c)
    → Gated (record w { walks = insert w.walks number walk; gate = gate })
put_good w number walk gate h new keep c v e =
    elim (insert_cases nat_cmp_total nat_cmp-IsAntisymmetric w.walks number walk c) [
      | inl a ↦ subst (λ x. IsGood gate x v) (sym a.0) (subst (IsGood gate number) (same_Some walk v (sym a.1 ∙ e)) new)
      | inr a ↦ with_gate w.gate gate c v (h c v (sym a.1 ∙ e)) (keep c a.0)
    ]

-- the position changes, below the root
moved_good : (w : World) (number : ℕ) (walk : Walk) (at : Position) → Gated w → get w.walks number ≡ Some walk
    → walk.stale ≡ false → is_above walk.at ≡ false
    → Gated (record w { walks = insert w.walks number (record walk { at = at }) })
moved_good w number walk at h is fresh low =
    let g = h number walk is in
    put_good w number (record walk { at = at }) w.gate h (record {
      few = g.few;
      held = λ n. g.held (or_more (takes_gate walk.call) (walk.starts == 4) _ _ n low);
      fresh = λ n. fresh;
      above = λ a. fresh;
    }) (λ c n e. e)
  where
    or_more : (a b c d : Bool) → (a || (b && not c)) ≡ true → d ≡ false → (a || (b && not d)) ≡ true
    or_more true b c d e f = refl
    or_more false true c true e f = absurd (cc f)
    or_more false true c false e f = refl
    or_more false false c d e f = absurd (cc e)

not_above : (call : Call) (at next : Position) → forked call at ≡ Some next → is_above at ≡ false
not_above call Above next e = absurd (cc e)
not_above call (Down trunk) next e = refl
not_above call (Split a b c) next e = refl

begin_good : (w : World) (number : ℕ) (call : Call) → Gated w → (not (takes_gate call) || is_none w.gate) ≡ true
    → Gated (record w {
      walks = insert w.walks number (record { call = call; starts = 1; stale = false; at = Above });
      gate = cond (takes_gate call) (Some number) w.gate;
    })
begin_good w number call h e = by (takes_gate call) refl e
  where
    new : Walk
    new = record { call = call; starts = 1; stale = false; at = Above }

    by : (b : Bool) → takes_gate call ≡ b → (not b || is_none w.gate) ≡ true
        → Gated (record w { walks = insert w.walks number new; gate = cond b (Some number) w.gate })
    by true r f = put_good w number new (Some number) h
        (record { few = omega arith; held = λ n. refl; fresh = λ n. refl; above = λ a. refl })
        (λ c n g. absurd (cc (sym f ∙ ap is_none g)))
    by false r f = put_good w number new w.gate h
        (record {
          few = omega arith;
          held = λ n. absurd (cc (sym n ∙ ap (λ b. b || false) r));
          fresh = λ n. refl;
          above = λ a. refl;
        }) (λ c n g. g)

enter_good : (w : World) (number : ℕ) (walk : Walk) → Gated w → get w.walks number ≡ Some walk → walk.stale ≡ false
    → (not (walk.starts == 4) || may_hold w number) ≡ true
    → Gated (record w {
      walks = insert w.walks number
          (record walk { at = Down (first_leg (domain_of w number) (trunk_path walk.call)) });
      gate =
          cond (walk.starts == 4) (Some number) w.gate;
    })
enter_good w number walk h is fresh = by (walk.starts == 4) refl
  where
    low : Walk
    low = record walk { at = Down (first_leg (domain_of w number) (trunk_path walk.call)) }

    taken : (c : ℕ) → may_hold w number ≡ true → c ≢ number → w.gate ≡ Some c → ⊥
    taken c o n e = n (eqb-true c number (ap (λ g. option_map_or (λ holder. holder == number) g true) (sym e) ∙ o))

    first : (a b : Bool) → (a || b) ≡ true → b ≡ false → a ≡ true
    first true b e f = refl
    first false b e f = absurd (cc (sym e ∙ f))

    by : (b : Bool) → (walk.starts == 4) ≡ b → (not b || may_hold w number) ≡ true
        → Gated (record w { walks = insert w.walks number low; gate = cond b (Some number) w.gate })
    by true e o = put_good w number low (Some number) h
        (record { few = (h number walk is).few; held = λ n. refl; fresh = λ n. fresh; above = λ a. fresh })
        (λ c n g. absurd (taken c o n g))
    by false e o = put_good w number low w.gate h (record {
      few = (h number walk is).few;
      held = λ n. (h number walk is).held
          (ap (λ b. b || ((walk.starts == 4) && not (is_above walk.at)))
          (first (takes_gate walk.call) ((walk.starts == 4) && true) n (ap (λ b. b && true) e)));
      fresh = λ n. fresh;
      above = λ a. fresh;
    }) (λ c n g. g)

-- a stale walk isn't on its fourth start
restart_good : (w : World) (number : ℕ) (walk : Walk) → Gated w → get w.walks number ≡ Some walk → walk.stale ≡ true
    → Gated (record w {
      walks = insert w.walks number
          (record walk { starts = walk.starts + 1; stale = false; at = Above });
    })
restart_good w number walk h is stale =
    put_good w number (record walk { starts = walk.starts + 1; stale = false; at = Above }) w.gate h (record {
      few = fewer (walk.starts == 4) refl;
      held = λ n. absurd (not_moving (or_off (takes_gate walk.call) _ n));
      fresh = λ n. refl;
      above = λ a. refl;
    }) (λ c n e. e)
  where
    g : IsGood w.gate number walk
    g = h number walk is

    no_gate : needs_gate walk ≡ true → ⊥
    no_gate n = cc (sym stale ∙ g.fresh n)

    not_moving : takes_gate walk.call ≡ true → ⊥
    not_moving e = no_gate (ap (λ b. b || ((walk.starts == 4) && not (is_above walk.at))) e)

    or_off : (a b : Bool) → (a || (b && false)) ≡ true → a ≡ true
    or_off true b e = refl
    or_off false true e = e
    or_off false false e = e

    four : (walk.starts == 4) ≡ true → ⊥
    four e = elim (is_above walk.at) as (λ b. is_above walk.at ≡ b → ⊥) [
      | true ↦ λ a. cc (sym stale ∙ g.above a)
      | false ↦ λ a. no_gate (or_right (takes_gate walk.call) _ (ap (λ b. b && not (is_above walk.at)) e ∙ ap not a))
    ] refl

    fewer : (b : Bool) → (walk.starts == 4) ≡ b → walk.starts + 1 ≤ 4
    fewer true e = absurd (four e)
    fewer false e = let f = g.few in let n : walk.starts ≢ 4 = λ k. absurd (cc (sym e ∙ eq-eqb walk.starts 4 k)) in
        omega arith

-- the walks after a commit, with whatever it moved: only who has the gate moves anything
left_good : (w : World) (number : ℕ) (walk : Walk) → Gated w → get w.walks number ≡ Some walk → (moved : List ℕ)
    → (takes_gate walk.call ≡ false → moved ≡ [])
    → (c : ℕ) (v : Walk) → get (map_values (overtaken moved) (remove w.walks number)) c ≡ Some v
    → IsGood (released w.gate number) c v
left_good w number walk h is moved only c v e = subst (IsGood (released w.gate number) c) o.3 (record {
  few = g.few;
  held = λ n. kept w.gate (g.held n);
  fresh = λ n. both_false (g.fresh n) (none n (takes_gate walk.call) refl);
  above = λ a. both_false (g.above a) (not_passed u.at a moved);
})
  where
    o : (c ≢ number) × (u : Walk) × (get w.walks c ≡ Some u) × (overtaken moved u ≡ v)
    o = was_other w number moved c v e

    u : Walk
    u = (was_other w number moved c v e).1

    g : IsGood w.gate c u
    g = h c u o.2

    both_false : {a b : Bool} → a ≡ false → b ≡ false → (a || b) ≡ false
    both_false {a} {b} e f = ap (λ x. x || b) e ∙ f

    kept : (gate : Option ℕ) → gate ≡ Some c → released gate number ≡ Some c
    kept None f = absurd (cc f)
    kept (Some holder) f =
        let same : holder ≡ c = same_Some holder c f in
        ap (λ b. cond b None (Some holder)) (or_false _ (λ k. o.0 (sym same ∙ eqb-true holder number k)))
        ∙ ap (λ i. Some i) same

    none : needs_gate u ≡ true → (b : Bool) → takes_gate walk.call ≡ b → list_any (passes u) moved ≡ false
    none n true r = absurd (o.0 (same_Some c number (sym (g.held n)
        ∙ (h number walk is).held (ap (λ b. b || ((walk.starts == 4) && not (is_above walk.at))) r))))
    none n false r = ap (list_any (passes u)) (only r)

    not_passed : (at : Position) → is_above at ≡ true → (ds : List ℕ)
        → list_any (passes (record u { at = at })) ds ≡ false
    not_passed Above a [] = refl
    not_passed Above a (d ∷ ds) = not_passed Above a ds
    not_passed (Down t) a ds = absurd (cc a)
    not_passed (Split t x y) a ds = absurd (cc a)

pub gated : Keeps Gated
gated = record {
  begins = λ w number call h idle walked g. begin_good w number call h g;
  enters = λ w number walk h is fresh high free g. enter_good w number walk h is fresh g;
  stands = λ w number walk leg h is fresh low e free. moved_good w number walk (with_turn walk.at leg) h is fresh low;
  forks = λ w number walk at h is fresh e. moved_good w number walk at h is fresh (not_above walk.call walk.at at e);
  restarts = λ w number walk h is stale. restart_good w number walk h is stale;
  gives_up = λ w number walk h is. left_good w number walk h is [] (λ r. refl);
  commits = λ w number walk h is may not_full.
      let reply = reply_to w number walk.call in
      left_good w number walk h is (moved_by (shown w) walk.call reply)
      (λ r. moved_nothing (shown w) walk.call reply (is_nil (moving walk.call) r));
  calls = λ w number call h idle plain unwalked not_full. h;
  joins = λ w h not_full answer. h;
}

all_good : (rules : Rules) (room limit : ℕ) (steps : List Step) → Gated (world_after (new_world rules room limit) steps)
all_good rules room limit steps =
    steps_kept Gated gated (new_world rules room limit) steps (λ c v e. absurd (cc (sym e ∙ get-empty Walk nat_cmp c)))

pub starts_are_few : AfterSteps AreFew
starts_are_few rules room limit steps = λ number walk is. (all_good rules room limit steps number walk is).few

pub holder_is_never_stale : AfterSteps GateIsHeld
holder_is_never_stale rules room limit steps = λ number walk is needs.
    let g = all_good rules room limit steps number walk is in
    (g.held needs, g.fresh needs)
