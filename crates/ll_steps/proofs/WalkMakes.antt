-- What comes of a walk's steps, with the slots that the journal tells.
use Rattle.std.specs.Prelude.{◌≡◌, ◌≢◌, ℕ, ◌≤◌, Bool, true, false, cond, not, ◌&&◌, ◌||◌, ◌==◌, List, [], ◌∷◌, length}
use Rattle.std.specs.Prelude.{map, Option, Some, None, unwrap_or, option_and_then, refl}
use Rattle.std.specs.List.{list_any}
use Rattle.std.specs.Option.{option_map_or}
use Rattle.std.proofs.Common.{sym, ap, subst, ◌∙◌, inl, inr}
use Rattle.std.proofs.lemmas.Bool.{eq-eqb}
use Rattle.ll_laws.proofs.Chains.{same_Some}
use Rattle.ll_rights.specs.declared.errno.Errno.TheVariants.{HistoryFull}
use Rattle.ll_node.specs.declared.held.Held.{Held}
use Rattle.ll_node.specs.InodeTable.{NotIn}
use Rattle.ll_rights.specs.Map.{get}
use Rattle.ll_path.specs.Path.{is_root}
use Rattle.ll_seq.specs.declared.call.Call.{Call}
use Rattle.ll_seq.specs.declared.reply.Reply.TheVariants.{Refused}
use Rattle.ll_seq.specs.State.{root}
use Rattle.ll_seq.proofs.Parted.{or_left, or_right}
use Rattle.ll_laws.specs.declared.step.Step.{Step}
use Rattle.ll_laws.specs.declared.step.Step.TheVariants.{Descend, Commit}
use Rattle.ll_laws.specs.Walk.{Walk, Leg, Position, Above, Down, Split, further, turn, legs, marks, is_above, at_ends}
use Rattle.ll_laws.specs.Walk.{has_two_paths}
use Rattle.ll_laws.specs.World.{World, Outcome, NotNow, Stands, Replied, advance, shown, is_marked_by_other}
use Rattle.ll_laws.specs.World.{last_nodes, domain_of, is_marked, stand, enter, descend}
use Rattle.ll_laws.proofs.Tests.{not_true}
use Rattle.ll_laws.proofs.SoundSteps.{sound_ended}
use Rattle.ll_laws.proofs.WalkMaps.{found}
use Rattle.ll_laws.specs.Sound.{IsSound}
use Rattle.ll_laws.proofs.Shapes.{leg_is_blocked, stood}
use Rattle.ll_journal.specs.Book.{Book, Spares, inode_in, slot_of, has_mark}
use Rattle.ll_journal.specs.Steps.{Does, GoesDown, IsNext, IsInTurn, IsAstrayAt, IsAstrayAtTop}
use Rattle.ll_journal.specs.Steps.{is_at_top, leg_in_turn}
use Rattle.ll_journal.specs.WalkEnds.{AreEnough, Ends, IsAstrayAtEnd, is_lent}
use Rattle.ll_journal.specs.declared.progress.Ending.{Ending}
use Rattle.ll_journal.specs.declared.progress.Ending.TheVariants as ending
use Rattle.ll_journal.specs.declared.progress.Progress as told
use Rattle.ll_journal.specs.declared.progress.Progress.TheVariants as tells
use Rattle.ll_journal.specs.Stations.{station_at, station_of, station_in}
use Rattle.ll_journal.specs.declared.station.Station.TheVariants as station
use Rattle.ll_journal.specs.SlotTree.{accounts_of}
use Rattle.ll_journal.proofs.Advances.{descend_none, descend_stale, commit_none, commit_not_now}
use Rattle.ll_journal.proofs.Starved.{starved_walk}
use Rattle.ll_journal.proofs.NextSteps.{no_turn}
use Rattle.ll_steps.specs.Contents.{held_at, ended_as, IsKept}
use Rattle.ll_steps.specs.Makes.{Makes}
use Rattle.ll_steps.proofs.AddedEntries.{replied_makes, full_told}
use Rattle.ll_steps.proofs.ContentsKept.{kept_on, does_advance}
use Rattle.ll_steps.proofs.LentContents.{put_back}

-- ---- above the root

above_station : (call : Call) (at : Position) → station_at call at ≡ station.Above → is_above at ≡ true
above_station call Above e = refl
above_station call (Down trunk) e = by (is_root trunk.ahead) (has_two_paths call) e
  where
    by : (a b : Bool) → cond a (cond b station.Fork station.End) station.Trunk ≡ station.Above → false ≡ true
    by true true f = absurd (cc f)
    by true false f = absurd (cc f)
    by false b f = absurd (cc f)
above_station call (Split trunk old new) e = by (is_root old.ahead) (is_root new.ahead) e
  where
    by : (a b : Bool) → cond a (cond b station.End station.Second) station.First ≡ station.Above → false ≡ true
    by true true f = absurd (cc f)
    by true false f = absurd (cc f)
    by false b f = absurd (cc f)

pub at_top : (w : World) (number : ℕ) → station_in w number ≡ station.Above → is_at_top w number ≡ true
at_top w number e = by (get w.walks number) e
  where
    by : (o : Option Walk) → station_of o ≡ station.Above
        → option_map_or (λ (walk : Walk). is_above walk.at) o false ≡ true
    by None f = absurd (cc f)
    by (Some walk) f = elim walk.stale as (λ b. cond b station.Stale (station_at walk.call walk.at) ≡ station.Above
        → is_above walk.at ≡ true) [
          | true ↦ λ g. absurd (cc g)
          | false ↦ above_station walk.call walk.at
        ] f

pub near_top : (b : Book) (number slot : ℕ) → is_at_top b.world number ≡ true → inode_in b slot ≡ root
    → IsAstrayAtTop b number slot → ⊥
near_top b number slot top is astray = astray.1 top is

-- ---- a leg that stands

pub turns : (at : Position) (leg : Leg) → turn at ≡ Some leg → is_above at ≡ false
turns Above leg e = absurd (cc e)
turns (Down trunk) leg e = refl
turns (Split trunk old new) leg e = refl

-- where the leg in turn stands the walk has its mark
turn_marked : (walk : Walk) (leg : Leg) → turn walk.at ≡ Some leg → marks walk leg.here ≡ true
turn_marked walk leg e = by walk.at e
  where
    same : (l : Leg) → Some l ≡ Some leg → (l.here == leg.here) ≡ true
    same l f = eq-eqb l.here leg.here (ap (λ (k : Leg). k.here) (same_Some l leg f))

    by : (at : Position) → turn at ≡ Some leg → list_any (λ (l : Leg). l.here == leg.here) (legs at) ≡ true
    by Above f = absurd (cc f)
    by (Down trunk) f = or_left (trunk.here == leg.here) false (same trunk f)
    by (Split trunk old new) f = elim (is_root old.ahead) as (λ b. Some (cond b new old) ≡ Some leg
        → list_any (λ (l : Leg). l.here == leg.here) (trunk ∷ old ∷ new ∷ []) ≡ true) [
          | true ↦ λ g. or_right (trunk.here == leg.here) _
              (or_right (old.here == leg.here) _ (or_left (new.here == leg.here) false (same new g)))
          | false ↦ λ g. or_right (trunk.here == leg.here) _ (or_left (old.here == leg.here) _ (same old g))
        ] f

-- ---- descents that aren't enabled

-- no leg stands, and the walk isn't above the root, or there is none
pub nowhere : (w : World) (number : ℕ) → station_in w number ≢ station.Above → leg_in_turn w number ≡ None
    → advance w (Descend number) ≡ (NotNow, w)
nowhere w number low none = by (get w.walks number) refl
  where
    by : (o : Option Walk) → get w.walks number ≡ o → advance w (Descend number) ≡ (NotNow, w)
    by None is = descend_none w number is
    by (Some walk) is = elim walk.stale as (λ b. walk.stale ≡ b → advance w (Descend number) ≡ (NotNow, w)) [
      | true ↦ descend_stale w number walk is
      | false ↦ λ fresh. absurd (low (
          let above : walk.at ≡ Above =
          no_turn walk.at (sym (ap (option_and_then (λ (v : Walk). turn v.at)) is) ∙ none) in
          ap station_of is ∙ ap (λ b. cond b station.Stale (station_at walk.call walk.at)) fresh
          ∙ ap (station_at walk.call) above))
    ] refl

module _ (w : World) (number : ℕ) (walk : Walk) (is : get w.walks number ≡ Some walk) (fresh : walk.stale ≡ false)
    (leg : Leg) (in_turn : turn walk.at ≡ Some leg) where
  abbrev done_or_not : Option (Outcome × World) → Outcome × World
  done_or_not o = unwrap_or o (NotNow, w)

  pub goes_further : advance w (Descend number)
      ≡ done_or_not (option_and_then (stand w number walk) (further (shown w) (domain_of w number) leg))
  goes_further =
      ap (λ o. done_or_not (option_and_then (descend w number) o)) is
      ∙ (λ i. done_or_not (cond (fresh i) None
      (cond (turns walk.at leg in_turn i) (enter w number walk)
      (option_and_then (stand w number walk)
      (option_and_then (further (shown w) (domain_of w number)) (in_turn i))))))

-- the leg in turn stands in the slot's directory, and has nowhere to go
pub no_further : (b : Book) (number slot : ℕ) (leg : Leg) → leg_in_turn b.world number ≡ Some leg
    → inode_in b slot ≡ leg.here → (GoesDown b number slot → ⊥) → advance b.world (Descend number) ≡ (NotNow, b.world)
no_further b number slot leg in_turn here stays = by (get b.world.walks number) refl
  where
    by : (o : Option Walk) → get b.world.walks number ≡ o → advance b.world (Descend number) ≡ (NotNow, b.world)
    by None is = descend_none b.world number is
    by (Some walk) is =
        elim walk.stale as (λ s. walk.stale ≡ s → advance b.world (Descend number) ≡ (NotNow, b.world)) [
          | true ↦ descend_stale b.world number walk is
          | false ↦ λ fresh.
              let turned : turn walk.at ≡ Some leg =
              sym (ap (option_and_then (λ (v : Walk). turn v.at)) is) ∙ in_turn in
              goes_further b.world number walk is fresh leg turned
              ∙ on walk is fresh (further (shown b.world) (domain_of b.world number) leg) refl
        ] refl
      where
        on : (walk : Walk) → get b.world.walks number ≡ Some walk → walk.stale ≡ false → (o : Option Leg)
            → further (shown b.world) (domain_of b.world number) leg ≡ o
            → unwrap_or (option_and_then (stand b.world number walk) o) (NotNow, b.world) ≡ (NotNow, b.world)
        on walk is fresh None e = refl
        on walk is fresh (Some next) e = absurd (stays (record {
          going = ap (λ o. option_map_or (λ (v : Walk). not v.stale) o false) is ∙ ap not fresh;
          leg = leg;
          next = next;
          in_turn = in_turn;
          further_is = e;
          from_here = here;
        }))

-- no directory is entered from itself: there the walk has its own mark
pub no_loop : (b : Book) (number slot to : ℕ) → slot ≡ to → IsNext b number slot to
    → advance b.world (Descend number) ≡ (NotNow, b.world)
no_loop b number slot to same next = by (get b.world.walks number) refl
  where
    by : (o : Option Walk) → get b.world.walks number ≡ o → advance b.world (Descend number) ≡ (NotNow, b.world)
    by None is = descend_none b.world number is
    by (Some walk) is =
        let turned : turn walk.at ≡ Some next.leg =
        sym (ap (option_and_then (λ (v : Walk). turn v.at)) is) ∙ next.in_turn in
        let fresh : walk.stale ≡ false =
        not_true walk.stale (sym (ap (λ o. option_map_or (λ (v : Walk). not v.stale) o false) is) ∙ next.going) in
        let here : next.next.here ≡ next.leg.here = sym next.to_there ∙ ap (inode_in b) (sym same) ∙ next.from_here in
        let marked : is_marked b.world next.next.here ≡ true =
        ap (is_marked b.world) here ∙ found b.world.walks (λ e. marks e.1 next.leg.here) number walk is
        (turn_marked walk next.leg turned) in
        goes_further b.world number walk is fresh next.leg turned
        ∙ ap (λ o. unwrap_or (option_and_then (stand b.world number walk) o) (NotNow, b.world)) next.further_is
        ∙ ap (λ t. unwrap_or (cond (not t) (Some (Stands next.next.here, stood b.world number walk next.next)) None)
        (NotNow, b.world)) marked

-- ---- a commit

-- above the root, or without a walk
pub commit_nowhere : (w : World) (number : ℕ) → leg_in_turn w number ≡ None → advance w (Commit number) ≡ (NotNow, w)
commit_nowhere w number none = by (get w.walks number) refl
  where
    and_false : (a : Bool) → (a && false) ≡ false
    and_false true = refl
    and_false false = refl

    by : (o : Option Walk) → get w.walks number ≡ o → advance w (Commit number) ≡ (NotNow, w)
    by None is = commit_none w number is
    by (Some walk) is = commit_not_now w number walk is
        (ap (λ at. not walk.stale && (option_map_or (leg_is_blocked (shown w)) (turn at) false
        || (at_ends walk.call at && not (list_any (is_marked_by_other w number) (last_nodes (shown w) walk.call)))))
        (no_turn walk.at (sym (ap (option_and_then (λ (v : Walk). turn v.at)) is) ∙ none)) ∙ and_false (not walk.stale))

pub in_turn_there : (b : Book) (number slot : ℕ) (leg : Leg) → leg_in_turn b.world number ≡ Some leg
    → inode_in b slot ≡ leg.here → IsInTurn b number slot
in_turn_there b number slot leg e here other f = here ∙ ap (λ (l : Leg). l.here) (same_Some leg other (sym e ∙ f))

pub near_end : (b : Book) (number : ℕ) (slots : List ℕ)
    → ((walk : Walk) → get b.world.walks number ≡ Some walk → walk.stale ≡ false → AreEnough b number walk slots)
    → IsAstrayAtEnd b number slots → ⊥
near_end b number slots enough astray = astray.3 (enough astray.0 astray.1 astray.2)

pub ending_makes : (b b' : Book) (number : ℕ) (e : Ending) → e ≢ ending.Astray → Ends b number e b'
    → Makes b.world (Commit number) (ended_as (length b.world.history) e) b'.world
ending_makes b b' number ending.NotNow near d = d
ending_makes b b' number ending.Astray near d = absurd (near refl)
ending_makes b b' number (ending.Replied reply) near d =
    replied_makes b.world b'.world (Commit number) reply d.0 (λ f. cc f) d.1
ending_makes b b' number ending.HistoryFull near d = inl (full_told b.world b'.world (Commit number) d, d)
ending_makes b b' number ending.NoMemory near d = inr (refl, d.0, d.1)

pub ending_keeps : (b b' : Book) (slots new : List Held) (number : ℕ) (e : Ending) → IsKept b slots → e ≢ ending.Astray
    → Ends b number e b' → new ≡ accounts_of b' → IsKept b' new
ending_keeps b b' slots new number ending.NotNow h near d e = kept_on b b' slots new (Commit number) NotNow h d e
ending_keeps b b' slots new number ending.Astray h near d e = absurd (near refl)
ending_keeps b b' slots new number (ending.Replied reply) h near d e =
    kept_on b b' slots new (Commit number) (Replied reply) h d.1 e
ending_keeps b b' slots new number ending.HistoryFull h near d e =
    kept_on b b' slots new (Commit number) (Replied (Refused HistoryFull)) h d e
ending_keeps b b' slots new number ending.NoMemory h near d e = record {
  accounts = e;
  sound = (let ends = starved_walk b.world number d.0 in
      subst IsSound (sym d.1) (sound_ended b.world number ends.0 h.sound ends.1));
  within = subst (λ (w : World). length w.history ≤ w.limit) (sym d.1) h.within;
}

-- ---- a restart

pub near_start : (b : Book) (number : ℕ) (slots : List ℕ)
    → ((inode : ℕ) → is_lent b slots inode ≡ has_mark b.world inode number) → IsAstrayAt b number slots → ⊥
near_start b number slots marked astray =
    astray.3 (λ inode m. marked inode ∙ ap (λ o. option_map_or (λ (v : Walk). marks v inode) o false) astray.1 ∙ m)

-- ---- a step that is lent some slots

pub told_keeps : (b b' : Book) (slots new : List Held) (step' : Step) (o : told.Progress) → IsKept b slots
    → o ≢ tells.Astray → Does b step' o b' → new ≡ accounts_of b' → IsKept b' new
told_keeps b b' slots new step' o h near d e = let a = does_advance b b' step' o near d in
    kept_on b b' slots new step' a.0 h a.1 e

-- taken out, lent and put back
pub traded : (b b' : Book) (slots meanwhile new : List Held) (ks : List ℕ) (lent : List Held) → slots ≡ accounts_of b
    → Spares b b' ks → length meanwhile ≡ length slots → length new ≡ length meanwhile
    → ((j : ℕ) → NotIn j ks → held_at meanwhile j ≡ held_at slots j) → lent ≡ map (slot_of b') ks
    → map (held_at new) ks ≡ lent → ((j : ℕ) → NotIn j ks → held_at new j ≡ held_at meanwhile j)
    → new ≡ accounts_of b'
traded b b' slots meanwhile new ks lent e spares size later before told_so put after =
    put_back b b' slots new ks e spares (later ∙ size) (put ∙ told_so) (λ j out. after j out ∙ before j out)
