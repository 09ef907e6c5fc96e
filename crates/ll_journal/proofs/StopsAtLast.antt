-- Why a commit stops with no name ahead of the leg in turn: each branch is at its end, or the walk is still to fork or
-- to begin.
use Rattle.std.specs.Prelude.{◌≡◌, ◌≢◌, ℕ, zero, suc, ◌-◌, Bool, true, false, cond, not, ◌&&◌, ◌||◌, ◌==◌, List, []}
use Rattle.std.specs.Prelude.{◌∷◌, map, nat_le, Option, Some, None, option_map, option_and_then, slice_get}
use Rattle.std.specs.Prelude.{slice_index_or, refl}
use Rattle.std.specs.Option.{option_map_or}
use Rattle.std.specs.List.{list_all, list_any}
use Rattle.std.proofs.Common.{sym, subst, ap, ◌∙◌, inl, inr, arith}
use Rattle.std.proofs.lemmas.Bool.{eqb-true, eq-eqb}
use Rattle.ll_rights.specs.declared.kind.Kind.TheVariants.{Dir}
use Rattle.ll_rights.specs.Map.{get, len}
use Rattle.ll_path.specs.Path.{Path, parent, is_root}
use Rattle.ll_seq.specs.declared.call.Call.{Call}
use Rattle.ll_seq.specs.Call.{first_path, second_path}
use Rattle.ll_seq.specs.State.{State, root, start}
use Rattle.ll_seq.specs.Tree.{named}
use Rattle.ll_seq.proofs.Parted.{or_left, or_right}
use Rattle.ll_laws.proofs.Chains.{same_Some}
use Rattle.ll_laws.proofs.Gain.{start_tree, after_tree}
use Rattle.ll_laws.proofs.Trees.{IsTree}
use Rattle.ll_seq.specs.Found.{AreFacts, IsSpot}
use Rattle.ll_seq.specs.Near.{nodes_of, may_make}
use Rattle.ll_seq.specs.declared.found.Found.{Found}
use Rattle.ll_laws.specs.Walk.{Walk, Leg, Position, Above, Down, Split, at_ends, is_blocked, is_in, marks, turn}
use Rattle.ll_laws.specs.World.{World, shown, domain_of, is_marked_by_other, last_nodes, may_commit}
use Rattle.ll_laws.specs.Commits.{first_end, second_end}
use Rattle.ll_laws.proofs.Shapes.{leg_is_blocked}
use Rattle.ll_laws.proofs.Tests.{both, second}
use Rattle.ll_node.specs.Accounts.{names_map}
use Rattle.ll_node.specs.declared.held.Held.{Held}
use Rattle.ll_node.specs.Lent.{Misses}
use Rattle.ll_journal.specs.declared.journal.Journal.TheInside.{Inside}
use Rattle.ll_journal.specs.CommitCheck.{CommitCheck}
use Rattle.ll_journal.specs.CommitCheck as stops
use Rattle.ll_journal.specs.Book.{Book, Seat, slot_of}
use Rattle.ll_journal.specs.WalkEnds.{AreEnough, IsAstrayAtEnd, spare_of}
use Rattle.ll_journal.specs.Kept.{IsKept, book_of, spares_of, world_of}
use Rattle.ll_journal.specs.Checks.{Lies, StopsAtEnds, StopsBetween, found_at, goes_on, is_all_lent, is_enough}
use Rattle.ll_journal.specs.Checks.{is_marked_there, lends, spot_at, check_there}
use Rattle.ll_journal.specs.Seated.{is_at_ends, next_in, next_of}
use Rattle.ll_journal.specs.Stopped.{IsEndOf, IsReachedEnd, IsStop}
use Rattle.ll_journal.proofs.Advances.{commit_not_now, may_commit_at_ends, may_commit_marked, may_commit_on_the_way}
use Rattle.ll_journal.proofs.AtEnds.{IsEnd, first_is_end, second_is_end}
use Rattle.ll_journal.proofs.Descents.{living_one}
use Rattle.ll_journal.proofs.RootDescents.{walk_here}
use Rattle.ll_journal.proofs.LastSpots.{IsThere, each_node, makes_there, marked_there, spot_last, there_last}
use Rattle.ll_journal.proofs.LentMarks.{all_marked, lends_is, lies_held, misses_not}
use Rattle.ll_journal.proofs.Ruled.{room_stays}

-- ---- where a walk stands

-- a leg without names ahead isn't blocked
not_blocked : (s : State) (o : Option Leg) → option_and_then (λ (leg : Leg). slice_get leg.ahead 0) o ≡ None
    → option_map_or (leg_is_blocked s) o false ≡ false
not_blocked s None none = refl
not_blocked s (Some leg) none = by leg.ahead none
  where
    by : (p : Path) → slice_get p 0 ≡ None → is_blocked s leg.here p ≡ false
    by [] e = refl
    by (name ∷ rest) e = absurd (cc e)

first_stands : (walk : Walk) (at : Position) (leg : Leg) → first_end at ≡ Some leg
    → marks (record walk { at = at }) leg.here ≡ true
first_stands walk Above leg e = absurd (cc e)
first_stands walk (Down trunk) leg e =
    or_left (trunk.here == leg.here) _ (eq-eqb trunk.here leg.here (ap (λ (l : Leg). l.here) (same_Some trunk leg e)))
first_stands walk (Split trunk old new) leg e =
    or_right (trunk.here == leg.here) _
    (or_left (old.here == leg.here) _ (eq-eqb old.here leg.here (ap (λ (l : Leg). l.here) (same_Some old leg e))))

second_stands : (walk : Walk) (at : Position) (leg : Leg) → second_end at ≡ Some leg
    → marks (record walk { at = at }) leg.here ≡ true
second_stands walk Above leg e = absurd (cc e)
second_stands walk (Down trunk) leg e =
    or_left (trunk.here == leg.here) _ (eq-eqb trunk.here leg.here (ap (λ (l : Leg). l.here) (same_Some trunk leg e)))
second_stands walk (Split trunk old new) leg e =
    or_right (trunk.here == leg.here) _
    (or_right (old.here == leg.here) _
    (or_left (new.here == leg.here) _ (eq-eqb new.here leg.here (ap (λ (l : Leg). l.here) (same_Some new leg e)))))

-- the leg that stands here
pub standing : (o : Option Leg) (i : ℕ) → option_map (λ (leg : Leg). leg.here) o ≡ Some i → (leg : Leg) × (o ≡ Some leg)
    × (leg.here ≡ i)
standing None i e = absurd (cc e)
standing (Some leg) i e = (leg, refl, same_Some leg.here i e)

-- the root's path ends in the root
pub root_end : (s : State) (path : Path) (i : ℕ) → is_root path ≡ true → named s (parent path) ≡ Some i → i ≡ root
root_end s [] i e names = sym (same_Some root i names)
root_end s (name ∷ path) i e names = absurd (cc e)

-- ---- what is lent

spare_at : (seats : List Seat) (place : ℕ) (seat : Seat) → slice_get seats place ≡ Some seat
    → slice_index_or (spares_of seats) place 0 ≡ seat.spare
spare_at [] place seat e = absurd (cc e)
spare_at (x ∷ seats) zero seat e = ap (λ (v : Seat). v.spare) (same_Some x seat e)
spare_at (x ∷ seats) (suc place) seat e = spare_at seats place seat e

-- of all these inodes but 0
each_lent : (f : ℕ → Bool) (xs : List ℕ) (inode : ℕ) → list_all (λ i. (i == 0) || f i) xs ≡ true → is_in xs inode ≡ true
    → inode ≢ 0 → f inode ≡ true
each_lent f [] inode all e some = absurd (cc e)
each_lent f (x ∷ xs) inode all e some =
    let parts = both ((x == 0) || f x) (list_all (λ i. (i == 0) || f i) xs) all in
    elim (x == inode) as (λ t. (x == inode) ≡ t → (t || is_in xs inode) ≡ true → f inode ≡ true) [
      | true ↦ λ same g.
          let is : x ≡ inode = eqb-true x inode same in
          elim (x == 0) as (λ t. (x == 0) ≡ t → (t || f x) ≡ true → f inode ≡ true) [
            | true ↦ λ none k. absurd (some (sym is ∙ eqb-true x 0 none))
            | false ↦ λ there k. ap f (sym is) ∙ k
          ] refl parts.0
      | false ↦ λ other g. each_lent f xs inode parts.1 g some
    ] refl e

and_true : (a b : Bool) → a ≡ true → b ≡ true → (a && b) ≡ true
and_true true b e f = f
and_true false b e f = absurd (cc e)

-- ---- of a client's walk

pub walking : (o : Option Walk) → option_map_or (λ (walk : Walk). not walk.stale) o false ≡ true → (walk : Walk)
    × (o ≡ Some walk) × (walk.stale ≡ false)
walking None e = absurd (cc e)
walking (Some walk) e = (walk, refl, by walk.stale e)
  where
    by : (t : Bool) → not t ≡ true → t ≡ false
    by true e = absurd (cc e)
    by false e = refl

module _ (j : Inside) (h : IsKept j) (number place : ℕ) (seat : Seat) (at : slice_get j.seats.items place ≡ Some seat)
    (numbered : number ≡ suc place)
    (slots : List ℕ) (lent : List Held) (told : lent ≡ map (slot_of (book_of j)) slots) where
  abbrev w : World
  w = world_of j

  abbrev b : Book
  b = book_of j

  abbrev s : State
  s = shown w

  abbrev full : Bool
  full = nat_le j.room (len s.nodes)

  abbrev marked : ℕ → Bool
  marked = is_marked_by_other w number

  tree : IsTree s
  tree = after_tree (start j.rules j.room) j.history.entries (start_tree j.rules j.room)

  pub spare_is : spare_of b number ≡ seat.spare
  spare_is = ap (λ n. slice_index_or (spares_of j.seats.items) n 0) below ∙ spare_at j.seats.items place seat at
    where
      below : number - 1 ≡ place
      below = omega arith

  module _ (walk : Walk) (is : seat.walk ≡ Some walk) (fresh : walk.stale ≡ false) (all : is_all_lent lent seat ≡ true)
      (last : next_in seat ≡ None) where
    here : get w.walks number ≡ Some walk
    here = walk_here j h number place seat at numbered ∙ is

    free : option_map_or (leg_is_blocked s) (turn walk.at) false ≡ false
    free = not_blocked s (turn walk.at) (ap (option_and_then (λ (v : Walk). next_of v.at)) (sym is) ∙ last)

    ends_is : at_ends walk.call walk.at ≡ is_at_ends seat
    ends_is = ap (λ (o : Option Walk). option_map_or (λ (v : Walk). at_ends v.call v.at) o false) (sym is)

    on_the_way : is_at_ends seat ≡ false → IsStop b number slots stops.NotNow
    on_the_way e = commit_not_now w number walk here (may_commit_on_the_way w number walk here free (ends_is ∙ e))

    is_lent_at : (leg : Leg) → marks walk leg.here ≡ true → lends lent leg.here ≡ true
    is_lent_at leg stands =
        lends_is j h number place seat at numbered slots lent told leg.here
        ∙ all_marked j h number place seat at numbered slots lent told walk is all leg.here stands

    -- that none is lent where a leg stands can't be
    not_missed : (leg : Leg) → marks walk leg.here ≡ true → Misses leg.here lent → ⊥
    not_missed leg stands away =
        cc (sym (all_marked j h number place seat at numbered slots lent told walk is all leg.here stands)
        ∙ misses_not j h number place seat at numbered slots lent told leg.here away)

    -- what is lent for a leg at its end
    module _ (path : Path) (leg : Leg) (end : IsEnd s (domain_of w number) path leg) (held : Held)
        (lies : Lies lent leg.here held) where
      names_lent : held.node.names ≡ names_map s leg.here
      names_lent =
          ap (λ (v : Held). v.node.names)
          (lies_held j h number place seat at numbered slots lent told held leg.here lies
          (living_one j h leg.here Dir end.directory))

      end_of : IsEndOf s path (spot_at j.table.facts held path) leg
      end_of = record { way = refl; here = lies.is; names = end.names; directory = end.directory; chain = end.chain }

      there_of : IsThere s path (spot_at j.table.facts held path)
      there_of = there_last s tree j.table.facts h.table.facts (domain_of w number) path leg end held lies.is names_lent

      spot_of : IsSpot s path (spot_at j.table.facts held path)
      spot_of = spot_last s tree j.table.facts h.table.facts (domain_of w number) path leg end held lies.is names_lent

      root_lent : marks walk leg.here ≡ true → is_root path ≡ true → lends lent root ≡ true
      root_lent stands e = ap (lends lent) (sym (root_end s path leg.here e end.names)) ∙ is_lent_at leg stands

    module _ (ends : at_ends walk.call walk.at ≡ true) (first other : Leg) (first_is : first_end walk.at ≡ Some first)
        (other_is : second_end walk.at ≡ Some other) where
      one_end : IsEnd s (domain_of w number) (first_path walk.call) first
      one_end = first_is_end w number walk h.sound here fresh ends first first_is

      other_end : IsEnd s (domain_of w number) (second_path walk.call) other
      other_end = second_is_end w number walk h.sound here fresh ends other other_is

      one_stands : marks walk first.here ≡ true
      one_stands = first_stands walk walk.at first first_is

      other_stands : marks walk other.here ≡ true
      other_stands = second_stands walk walk.at other other_is

      module _ (old new : Held) (old_lies : Lies lent first.here old) (new_lies : Lies lent other.here new) where
        abbrev found : Found
        found = found_at j.table.facts full old new walk.call

        one_there : IsThere s (first_path walk.call) found.first
        one_there = there_of (first_path walk.call) first one_end old old_lies

        other_there : IsThere s (second_path walk.call) found.second
        other_there = there_of (second_path walk.call) other other_end new new_lies

        facts : AreFacts s walk.call found
        facts = record {
          first = spot_of (first_path walk.call) first one_end old old_lies;
          second = spot_of (second_path walk.call) other other_end new new_lies;
          full = ap (λ room. nat_le room (len s.nodes)) (sym (room_stays (start j.rules j.room) j.history.entries));
        }

        reached : may_commit w number walk ≡ true → is_enough slots lent seat.spare walk.call found ≡ true
            → IsReachedEnd b number slots found
        reached may enough = record {
          walk = walk;
          ends = record {
            is = here;
            may = may;
            marked = all_marked j h number place seat at numbered slots lent told walk is all;
          };
          first = first;
          second = other;
          first_is = first_is;
          second_is = other_is;
          old = end_of (first_path walk.call) first one_end old old_lies;
          new = end_of (second_path walk.call) other other_end new new_lies;
          facts = facts;
          nodes = λ inode e some.
              sym (lends_is j h number place seat at numbered slots lent told inode)
              ∙ each_lent (lends lent) (nodes_of walk.call found) inode parts.0 e some;
          spare = λ makes. ap (is_in slots) spare_is
              ∙ second (not (may_make walk.call found)) (is_in slots seat.spare) (ap not makes) parts.1;
        }
          where
            parts : (list_all (λ i. (i == 0) || lends lent i) (nodes_of walk.call found) ≡ true)
                × ((not (may_make walk.call found) || is_in slots seat.spare) ≡ true)
            parts = both _ _ enough

        suffices : AreEnough b number walk slots → is_enough slots lent seat.spare walk.call found ≡ true
        suffices enough =
            and_true _ _
            (each_node s walk.call found (lends lent) one_there other_there
            (root_lent (first_path walk.call) first one_end old old_lies one_stands)
            (root_lent (second_path walk.call) other other_end new new_lies other_stands)
            (λ inode e. lends_is j h number place seat at numbered slots lent told inode ∙ enough.nodes ends inode e))
            (elim (may_make walk.call found) as (λ t. may_make walk.call found ≡ t
            → (not t || is_in slots seat.spare) ≡ true) [
              | true ↦ λ e. ap (is_in slots) (sym spare_is)
                  ∙ enough.spare ends (sym (makes_there s walk.call found one_there) ∙ e)
              | false ↦ λ e. refl
            ] refl)

        astray : is_enough slots lent seat.spare walk.call found ≡ false → IsAstrayAtEnd b number slots
        astray e = (walk, here, fresh, λ (enough : AreEnough b number walk slots). cc (sym e ∙ suffices enough))

        stops_there : IsStop b number slots (check_there marked slots lent seat.spare walk.call found)
        stops_there = elim (is_marked_there marked walk.call found) as (λ t. is_marked_there marked walk.call found ≡ t
            → IsStop b number slots (cond t stops.NotNow
            (cond (is_enough slots lent seat.spare walk.call found) (stops.Reached found) stops.Astray))) [
              | true ↦ λ e. commit_not_now w number walk here (may_commit_marked w number walk here free (sym same ∙ e))
              | false ↦ λ e.
                  elim (is_enough slots lent seat.spare walk.call found) as
                  (λ t. is_enough slots lent seat.spare walk.call found ≡ t
                  → IsStop b number slots (cond t (stops.Reached found) stops.Astray)) [
                    | true ↦ reached (may_commit_at_ends w number walk here fresh ends (sym same ∙ e))
                    | false ↦ astray
                  ] refl
            ] refl
          where
            same : is_marked_there marked walk.call found ≡ list_any marked (last_nodes s walk.call)
            same = marked_there s walk.call found marked one_there other_there

      stops_between : (stop : CommitCheck)
          → StopsBetween j.table.facts full marked slots lent seat.spare walk.call first.here other.here stop
          → IsStop b number slots stop
      stops_between stop (inl p) = subst (IsStop b number slots) (sym p.4) (stops_there p.0 p.1 p.2 p.3)
      stops_between stop (inr p) = absurd
          (elim p.0 [ inl away ↦ not_missed first one_stands away | inr away ↦ not_missed other other_stands away ])

    stops_at_ends : (stop : CommitCheck) → StopsAtEnds j.table.facts full marked slots lent seat stop
        → IsStop b number slots stop
    stops_at_ends stop (inl p) = subst (IsStop b number slots) (sym p.1) (on_the_way p.0)
    stops_at_ends stop (inr p) =
        let one = standing (first_end walk.at) p.2
        (ap (option_and_then (λ (v : Walk). option_map (λ (leg : Leg). leg.here) (first_end v.at))) (sym is) ∙ p.5)
        in
        let other = standing (second_end walk.at) p.3
        (ap (option_and_then (λ (v : Walk). option_map (λ (leg : Leg). leg.here) (second_end v.at))) (sym is) ∙ p.6)
        in
        let call : walk.call ≡ p.1 = same_Some walk.call p.1 (ap (option_map (λ (v : Walk). v.call)) (sym is) ∙ p.4) in
        stops_between (ends_is ∙ p.0) one.0 other.0 one.1 other.1 stop
        (subst (λ (k : Call × ℕ × ℕ). StopsBetween j.table.facts full marked slots lent seat.spare k.0 k.1 k.2 stop)
        (λ i. (sym call i, sym one.2 i, sym other.2 i)) p.7)

  pub stops_at_last : goes_on seat ≡ true → is_all_lent lent seat ≡ true → next_in seat ≡ None → (stop : CommitCheck)
      → StopsAtEnds j.table.facts full marked slots lent seat stop → IsStop b number slots stop
  stops_at_last goes all last = let walk = walking seat.walk goes in stops_at_ends walk.0 walk.1 walk.2 all last
