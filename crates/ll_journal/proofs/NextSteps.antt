-- Which step of a walk comes next: what it means that none of the others does.
use Rattle.std.specs.Prelude.{◌≡◌, ◌≢◌, ◌⊎◌, ℕ, Bool, true, false, cond, not, ◌&&◌, List, [], ◌∷◌, Option, Some, None}
use Rattle.std.specs.Prelude.{is_none, option_map, option_and_then, refl}
use Rattle.std.specs.List.{AllByRecursion}
use Rattle.std.specs.Option.{option_map_or}
use Rattle.std.proofs.Common.{sym, ap, ◌∙◌, inl, inr}
use Rattle.ll_rights.specs.Map.{get}
use Rattle.ll_path.specs.Path.{Path, is_root}
use Rattle.ll_rules.specs.Layer.{Layer}
use Rattle.ll_seq.specs.declared.call.Call.{Call}
use Rattle.ll_seq.specs.State.{Name, State}
use Rattle.ll_laws.proofs.Chains.{same_Some}
use Rattle.ll_laws.specs.Walk.{Walk, Leg, Position, Above, Down, Split, at_ends, directory_under, further, further_by}
use Rattle.ll_laws.specs.Walk.{has_two_paths, is_blocked, leg_below, turn}
use Rattle.ll_laws.specs.World.{domain_of, shown}
use Rattle.ll_journal.specs.declared.station.Station.{Station}
use Rattle.ll_journal.specs.declared.station.Station.TheVariants as station
use Rattle.ll_journal.specs.Book.{Book}
use Rattle.ll_journal.specs.NextStep.{IsAtStop}
use Rattle.ll_journal.specs.Stations.{station_at, station_in, station_of}
use Rattle.ll_journal.specs.Steps.{GoesDown, IsInTurn}
use Rattle.ll_journal.specs.WalkEnds.{AreEnough, IsNeeded}

-- a walk goes on that is below the root, and not at its fork
abbrev pub leads_on : Station → Bool
leads_on station.Idle = false
leads_on station.Stale = false
leads_on station.Above = false
leads_on station.Fork = false
leads_on station.Trunk = true
leads_on station.First = true
leads_on station.Second = true
leads_on station.End = true

pub leads_so : (s : Station) → (s ≡ station.Trunk) ⊎ (s ≡ station.First) ⊎ (s ≡ station.Second) ⊎ (s ≡ station.End)
    → leads_on s ≡ true
leads_so s (inl e) = ap leads_on e
leads_so s (inr (inl e)) = ap leads_on e
leads_so s (inr (inr (inl e))) = ap leads_on e
leads_so s (inr (inr (inr e))) = ap leads_on e

pub no_turn : (at : Position) → turn at ≡ None → at ≡ Above
no_turn Above e = refl
no_turn (Down trunk) e = absurd (cc e)
no_turn (Split trunk old new) e = absurd (cc e)

-- a leg that can't go further has its next name in the way, or none
blocked_or_ended : (s : State) (domain : List Layer) (leg : Leg) → further s domain leg ≡ None
    → (is_blocked s leg.here leg.ahead ≡ true) ⊎ (is_root leg.ahead ≡ true)
blocked_or_ended s domain leg e = by leg.ahead e
  where
    found : (name : Name) (rest : Path) (o : Option ℕ) → option_map (leg_below domain leg name rest) o ≡ None
        → is_none o ≡ true
    found name rest None f = refl
    found name rest (Some i) f = absurd (cc f)

    by : (p : Path) → further_by s domain leg p ≡ None → (is_blocked s leg.here p ≡ true) ⊎ (is_root p ≡ true)
    by [] f = inr refl
    by (name ∷ rest) f = inl (found name rest (directory_under s leg.here name) f)

-- with no name ahead, and not at the fork
all_ended : (call : Call) (at : Position) (leg : Leg) → turn at ≡ Some leg → is_root leg.ahead ≡ true
    → station_at call at ≢ station.Fork → at_ends call at ≡ true
all_ended call Above leg turned e past = absurd (cc turned)
all_ended call (Down trunk) leg turned e past =
    let top : is_root trunk.ahead ≡ true = ap (λ (l : Leg). is_root l.ahead) (same_Some trunk leg turned) ∙ e in
    elim (has_two_paths call) as (λ t. has_two_paths call ≡ t → (not t && is_root trunk.ahead) ≡ true) [
      | true ↦ λ two. absurd (past (λ i. cond (top i) (cond (two i) station.Fork station.End) station.Trunk))
      | false ↦ λ one. top
    ] refl
all_ended call (Split trunk old new) leg turned e past =
    elim (is_root old.ahead) as (λ t. is_root old.ahead ≡ t → Some (cond t new old) ≡ Some leg
    → (t && is_root new.ahead) ≡ true) [
      | true ↦ λ r f. ap (λ (l : Leg). is_root l.ahead) (same_Some new leg f) ∙ e
      | false ↦ λ r f. absurd (cc (sym r ∙ ap (λ (l : Leg). is_root l.ahead) (same_Some old leg f) ∙ e))
    ] refl turned

module _ (b : Book) (number slot : ℕ) (slots : List ℕ)
    (place : Station) (there : place ≡ station_in b.world number) (on : leads_on place ≡ true)
    (stays : GoesDown b number slot → ⊥)
    (enough : IsInTurn b number slot → (walk : Walk) → get b.world.walks number ≡ Some walk → walk.stale ≡ false
    → AreEnough b number walk slots)
    (only : IsInTurn b number slot → (walk : Walk) → get b.world.walks number ≡ Some walk → walk.stale ≡ false
    → AllByRecursion (IsNeeded b number walk) slots)
    (here : IsInTurn b number slot) where
  elsewhere : (s : Station) → leads_on s ≡ false → station_in b.world number ≢ s
  elsewhere s off e = cc (sym on ∙ ap leads_on (there ∙ e) ∙ off)

  module _ (walk : Walk) (is : get b.world.walks number ≡ Some walk) (goes : walk.stale ≡ false) where
    stands_at : station_in b.world number ≡ station_at walk.call walk.at
    stands_at = ap station_of is ∙ ap (λ t. cond t station.Stale (station_at walk.call walk.at)) goes

    module _ (leg : Leg) (turned : turn walk.at ≡ Some leg) where
      stops : (o : Option Leg) → further (shown b.world) (domain_of b.world number) leg ≡ o
          → (is_blocked (shown b.world) leg.here leg.ahead ≡ true) ⊎ (at_ends walk.call walk.at ≡ true)
      stops None e = elim (blocked_or_ended (shown b.world) (domain_of b.world number) leg e) [
        | inl blocked ↦ inl blocked
        | inr top ↦ inr (all_ended walk.call walk.at leg turned top
            (λ fork. elsewhere station.Fork refl (stands_at ∙ fork)))
      ]
      stops (Some next) e =
          let in_turn = ap (option_and_then (λ (v : Walk). turn v.at)) is ∙ turned in
          absurd (stays (record {
            going = ap (λ o. option_map_or (λ (v : Walk). not v.stale) o false) is ∙ ap not goes;
            leg = leg;
            next = next;
            in_turn = in_turn;
            further_is = e;
            from_here = here leg in_turn;
          }))

    stopped : (o : Option Leg) → turn walk.at ≡ o → IsAtStop b number slots
    stopped None e = absurd (elsewhere station.Above refl (stands_at ∙ ap (station_at walk.call) (no_turn walk.at e)))
    stopped (Some leg) e = record {
      walk = walk;
      leg = leg;
      is = is;
      fresh = goes;
      in_turn = e;
      stops = stops leg e (further (shown b.world) (domain_of b.world number) leg) refl;
      enough = enough here walk is goes;
      only = only here walk is goes;
    }

  pub at_stop : IsAtStop b number slots
  at_stop = by (get b.world.walks number) refl
    where
      by : (o : Option Walk) → get b.world.walks number ≡ o → IsAtStop b number slots
      by None is = absurd (elsewhere station.Idle refl (ap station_of is))
      by (Some walk) is = elim walk.stale as (λ t. walk.stale ≡ t → IsAtStop b number slots) [
        | true ↦ λ e. absurd (elsewhere station.Stale refl (ap station_of is
            ∙ ap (λ t. cond t station.Stale (station_at walk.call walk.at)) e))
        | false ↦ λ e. stopped walk is e (turn walk.at) refl
      ] refl
