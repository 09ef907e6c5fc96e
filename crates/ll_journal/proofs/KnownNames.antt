-- What a look on a walk's way tells of the next name, and what the descent then knows of it.
use Rattle.std.specs.Prelude.{◌≡◌, ◌≢◌, ℕ, suc, Bool, true, false, cond, not, ◌==◌, Option, Some, None, IfSome}
use Rattle.std.specs.Prelude.{List, [], ◌∷◌, slice_get, option_map, option_and_then, is_some, refl}
use Rattle.std.specs.Ordering.{nat_cmp}
use Rattle.std.proofs.Common.{sym, subst, ap, ◌∙◌}
use Rattle.ll_rights.specs.Map.{Map, get}
use Rattle.ll_seq.specs.declared.call.Call.{Call}
use Rattle.ll_seq.specs.declared.facts.Fact.{Fact}
use Rattle.ll_path.specs.Path.{Path, parent}
use Rattle.ll_rules.specs.Layer.{Layer}
use Rattle.ll_seq.specs.Call.{first_path, second_path}
use Rattle.ll_seq.specs.State.{Name, State}
use Rattle.ll_laws.proofs.Chains.{same_Some}
use Rattle.ll_laws.specs.Walk.{Leg, Walk, further_by, has_two_paths, trunk_path, turn}
use Rattle.ll_laws.specs.World.{domain_of, shown}
use Rattle.ll_node.specs.declared.held.Held.{Held}
use Rattle.ll_journal.specs.declared.journal.Journal.TheInside as journal
use Rattle.ll_journal.specs.declared.onward.NextName.{NextName}
use Rattle.ll_journal.specs.declared.seat.Seat.TheInside.{Inside}
use Rattle.ll_journal.specs.declared.stage.Stage.{Stage}
use Rattle.ll_journal.specs.declared.stage.Stage.TheVariants as stage
use Rattle.ll_journal.specs.declared.stage.Turn.{Turn}
use Rattle.ll_journal.specs.declared.stage.Turn.TheVariants as turns
use Rattle.ll_journal.specs.declared.station.Station.TheVariants as station
use Rattle.ll_journal.specs.Book.{Seat}
use Rattle.ll_journal.specs.Kept.{IsKept, book_of, world_of}
use Rattle.ll_journal.specs.Checks.{TellsNext, directory_at, directory_below, directory_for, directory_from, goes_on}
use Rattle.ll_journal.specs.Checks.{is_directory}
use Rattle.ll_journal.specs.Stations.{Names, call_of, path_by, station_on}
use Rattle.ll_journal.specs.Seated.{FitAt, call_in, depth_of, here_in, name_on, next_in, next_of, none_left}
use Rattle.ll_journal.specs.Seated.{position_at, seat_of, turn_at}
use Rattle.ll_journal.specs.Stations.{station_in, station_of}
use Rattle.ll_journal.specs.Steps.{GoesDown}
use Rattle.ll_journal.proofs.Ahead.{ended}
use Rattle.ll_journal.proofs.RootDescents.{walk_here}
use Rattle.ll_journal.proofs.Seats.{kept_in, split_fits, station_is, trunk_fits}

-- ---- the directory below is what the next name stands for

abbrev IsFor : Option Name → Held → ℕ → Type 0
IsFor next from inode = (name : Name) × (next ≡ Some name) × (get from.node.names name ≡ Some inode)

module _ (facts : Map nat_cmp Fact) (from : Held) (inode : ℕ) where
  is_at : (o : Option ℕ) → directory_at facts o ≡ Some inode → o ≡ Some inode
  is_at None e = absurd (cc e)
  is_at (Some i) e = elim (is_directory facts i) as (λ b. cond b (Some i) None ≡ Some inode → Some i ≡ Some inode)
      [ true ↦ λ f. f | false ↦ λ f. absurd (cc f) ] e

  is_for : (next : Option Name) → directory_for facts next from ≡ Some inode → IsFor next from inode
  is_for None e = absurd (cc e)
  is_for (Some name) e = (name, refl, is_at (get from.node.names name) e)

  is_from : (o : Option ℕ) (next : Option Name) → directory_from facts o next from ≡ Some inode
      → IsFor next from inode
  is_from None next e = absurd (cc e)
  is_from (Some here) next e = elim (from.inode == here) as
      (λ b. cond b (directory_for facts next from) None ≡ Some inode → IsFor next from inode)
      [ true ↦ is_for next | false ↦ λ f. absurd (cc f) ] e

  pub is_below : (seat : Seat) → directory_below facts seat from ≡ Some inode → IsFor (next_in seat) from inode
  is_below seat e = elim (goes_on seat) as
      (λ b. cond b (directory_from facts (here_in seat) (next_in seat) from) None ≡ Some inode
      → IsFor (next_in seat) from inode)
      [ true ↦ is_from (here_in seat) (next_in seat) | false ↦ λ f. absurd (cc f) ] e

  pub goes_below : (seat : Seat) → directory_below facts seat from ≡ Some inode → goes_on seat ≡ true
  goes_below seat e = elim (goes_on seat) as
      (λ b. cond b (directory_from facts (here_in seat) (next_in seat) from) None ≡ Some inode → b ≡ true)
      [ true ↦ λ f. refl | false ↦ λ f. absurd (cc f) ] e

-- ---- the next name, by its index

pub under_way : (o : Option Call) → is_some o ≡ true → (call : Call) × (o ≡ Some call)
under_way None e = absurd (cc e)
under_way (Some call) e = (call, refl)

is_down : (now : Stage) (b : Bool) → turns.Trunk ≡ turn_at now b → now ≡ stage.Down
is_down stage.Above b e = absurd (cc e)
is_down stage.Down b e = refl
is_down stage.Split true e = absurd (cc e)
is_down stage.Split false e = absurd (cc e)

is_first : (now : Stage) (b : Bool) → turns.First ≡ turn_at now b → (now ≡ stage.Split) × (b ≡ false)
is_first stage.Above b e = absurd (cc e)
is_first stage.Down b e = absurd (cc e)
is_first stage.Split true e = absurd (cc e)
is_first stage.Split false e = (refl, refl)

is_second : (now : Stage) (b : Bool) → turns.Second ≡ turn_at now b → (now ≡ stage.Split) × (b ≡ true)
is_second stage.Above b e = absurd (cc e)
is_second stage.Down b e = absurd (cc e)
is_second stage.Split true e = (refl, refl)
is_second stage.Split false e = absurd (cc e)

module _ (seat : Inside) (call : Call) (is : seat.call ≡ Some call)
    (fit : IfSome seat.call (FitAt seat.stage seat)) where
  -- the seat as it is shown with this call
  abbrev at : Option Call → Seat
  at o = record (seat_of seat) {
    walk = option_map
        (λ k. record { call = k; starts = seat.starts; stale = seat.is_stale; at = position_at seat.stage seat k }) o;
  }

  fresh : goes_on (seat_of seat) ≡ true → seat.is_stale ≡ false
  fresh e = elim seat.is_stale as (λ b. not b ≡ true → b ≡ false) [ true ↦ λ f. absurd (cc f) | false ↦ λ f. refl ]
      (sym (ap (λ (o : Option Call). goes_on (at o)) is) ∙ e)

  in_split : seat.stage ≡ stage.Split → seat.is_stale ≡ false → station_of (seat_of seat).walk
      ≡ cond (none_left seat.first.ahead) (cond (none_left seat.second.ahead) station.End station.Second) station.First
  in_split split goes =
      let there = split_fits seat call is split fit in
      let first =
      ended (parent (first_path call)) (depth_of seat.first.chain.items) seat.first.ahead there.first.ahead in
      let second =
      ended (parent (second_path call)) (depth_of seat.second.chain.items) seat.second.ahead there.second.ahead in
      station_is seat call is goes stage.Split split
      ∙ (λ i. cond (sym first i) (cond (sym second i) station.End station.Second) station.First)

  stands : (t : Turn) → t ≢ turns.No → t ≡ turn_at seat.stage (none_left seat.first.ahead)
      → none_left (kept_in t seat).ahead ≡ false → seat.is_stale ≡ false
      → station_of (seat_of seat).walk ≡ station_on t
  stands turns.No some found left goes = absurd (some refl)
  stands turns.Trunk some found left goes =
      let down = is_down seat.stage (none_left seat.first.ahead) found in
      station_is seat call is goes stage.Down down
      ∙ ap (λ b. cond b (cond (has_two_paths call) station.Fork station.End) station.Trunk)
      (sym (ended (trunk_path call) (depth_of seat.trunk.chain.items) seat.trunk.ahead
      (trunk_fits seat call is down fit).ahead) ∙ left)
  stands turns.First some found left goes =
      let now = is_first seat.stage (none_left seat.first.ahead) found in
      in_split now.0 goes
      ∙ ap (λ b. cond b (cond (none_left seat.second.ahead) station.End station.Second) station.First) left
  stands turns.Second some found left goes =
      let now = is_second seat.stage (none_left seat.first.ahead) found in
      in_split now.0 goes
      ∙ ap (λ b. cond b (cond (none_left seat.second.ahead) station.End station.Second) station.First) now.1
      ∙ ap (λ b. cond b station.End station.Second) left

  module _ (t : Turn) (some : t ≢ turns.No) (found : t ≡ turn_at seat.stage (none_left seat.first.ahead))
      (name : name_on (path_by t call) (kept_in t seat).ahead ≡ next_in (seat_of seat)) where
    abbrev next_by : Bool → Option NextName
    next_by none = cond none None (Some (record { turn = t; depth = (kept_in t seat).ahead.place.depth }))

    pub tells_next : TellsNext (seat_of seat) (next_by (none_left (kept_in t seat).ahead))
    tells_next = elim (none_left (kept_in t seat).ahead) as
        (λ b. none_left (kept_in t seat).ahead ≡ b → TellsNext (seat_of seat) (next_by b)) [
          | true ↦ λ e. sym name
              ∙ ap (λ b. cond b None (slice_get (path_by t call) (kept_in t seat).ahead.place.depth)) e
          | false ↦ λ e. (
            call,
            ap (λ (o : Option Call). call_in (at o)) is,
            sym name ∙ ap (λ b. cond b None (slice_get (path_by t call) (kept_in t seat).ahead.place.depth)) e,
            λ goes. stands t some found e (fresh goes),
          )
        ] refl

-- ---- by the client's walk, and by its seat

-- where no name is left it goes nowhere
no_further : (s : State) (domain : List Layer) (leg : Leg) (ahead : Path) → slice_get ahead 0 ≡ None
    → further_by s domain leg ahead ≡ None
no_further s domain leg [] e = refl
no_further s domain leg (name ∷ rest) e = absurd (cc e)

next_of_leg : (o : Option Walk) (leg : Leg) → option_and_then (λ (walk : Walk). turn walk.at) o ≡ Some leg
    → option_and_then (λ (walk : Walk). next_of walk.at) o ≡ slice_get leg.ahead 0
next_of_leg None leg e = absurd (cc e)
next_of_leg (Some walk) leg e = ap (option_and_then (λ (l : Leg). slice_get l.ahead 0)) e

module _ (j : journal.Inside) (h : IsKept j) (number place : ℕ) (seat : Seat)
    (at : slice_get j.seats.items place ≡ Some seat) (numbered : number ≡ suc place) where
  pub nothing_ahead : (slot : ℕ) → next_in seat ≡ None → GoesDown (book_of j) number slot → ⊥
  nothing_ahead slot none down =
      let turned : option_and_then (λ (walk : Walk). turn walk.at) seat.walk ≡ Some down.leg =
      ap (option_and_then (λ (walk : Walk). turn walk.at)) (sym (walk_here j h number place seat at numbered))
      ∙ down.in_turn in
      let left = no_further (shown (world_of j)) (domain_of (world_of j) number) down.leg down.leg.ahead
      (sym (next_of_leg seat.walk down.leg turned) ∙ none) in
      cc (sym left ∙ down.further_is)

  pub called : call_of (world_of j) number ≡ call_in seat
  called = ap (option_map (λ (walk : Walk). walk.call)) (walk_here j h number place seat at numbered)

  module _ (from : Held) (next : NextName) (inode : ℕ) where
    pub names_seated : ((call : Call) → call_of (world_of j) number ≡ Some call → Names call from next inode)
        → (call : Call) → call_in seat ≡ Some call → Names call from next inode
    names_seated names call e = names call (called ∙ e)

    pub names_told : directory_below j.table.facts seat from ≡ Some inode → TellsNext seat (Some next)
        → (call : Call) → call_of (world_of j) number ≡ Some call → Names call from next inode
    names_told below ahead call e =
        let name = is_below j.table.facts from inode seat below in
        let same : ahead.0 ≡ call = same_Some ahead.0 call (sym ahead.1 ∙ sym called ∙ e) in
        subst (λ (c : Call). Names c from next inode) same (name.0, sym ahead.2 ∙ name.1, name.2)

    pub station_told : directory_below j.table.facts seat from ≡ Some inode → TellsNext seat (Some next)
        → station_in (world_of j) number ≡ station_on next.turn
    station_told below ahead = ap station_of (walk_here j h number place seat at numbered)
        ∙ ahead.3 (goes_below j.table.facts from inode seat below)
