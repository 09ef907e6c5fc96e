-- Why a commit stops where its client has no walk that goes on, and where a name is still ahead of the leg in turn.
use Rattle.std.specs.Prelude.{◌≡◌, ◌≢◌, ℕ, suc, Bool, true, false, not, ◌&&◌, List, [], ◌∷◌, map, Option, Some, None}
use Rattle.std.specs.Prelude.{is_none, is_some, option_map, option_and_then, unwrap_or, cond, slice_get, refl}
use Rattle.std.specs.Option.{option_map_or}
use Rattle.std.proofs.Common.{sym, subst, ap, ◌∙◌, inl, inr}
use Rattle.ll_rights.specs.declared.errno.Errno.{Errno}
use Rattle.ll_rights.specs.declared.kind.Kind.{Kind}
use Rattle.ll_rights.specs.declared.kind.Kind.TheVariants.{Reg, Dir, Sym, Fifo, Sock, Char, Block}
use Rattle.ll_rights.specs.Kind.{is_dir}
use Rattle.ll_rights.specs.Map.{get}
use Rattle.ll_node.specs.Slot.{NameMap}
use Rattle.ll_path.specs.Path.{Path, is_root}
use Rattle.ll_seq.specs.declared.call.Call.{Call}
use Rattle.ll_seq.specs.Stages.{no_directory, kind_of_child}
use Rattle.ll_seq.specs.State.{Name, State, kind_of}
use Rattle.ll_laws.proofs.Chains.{same_Some}
use Rattle.ll_seq.proofs.Counted.{kind_counted}
use Rattle.ll_laws.specs.Walk.{Walk, Leg, Position, Above, Down, Split, at_ends, has_two_paths, is_blocked, marks}
use Rattle.ll_laws.specs.Walk.{turn}
use Rattle.ll_laws.specs.World as world
use Rattle.ll_laws.specs.World.{World, advance, shown}
use Rattle.ll_laws.specs.declared.step.Step.TheVariants.{Commit}
use Rattle.ll_laws.proofs.Shapes.{if_directory, leg_is_blocked}
use Rattle.ll_laws.proofs.Tests.{not_true}
use Rattle.ll_node.specs.Accounts.{names_map}
use Rattle.ll_node.proofs.NameMaps.{get-names_map}
use Rattle.ll_node.specs.declared.held.Held.{Held}
use Rattle.ll_journal.specs.declared.journal.Journal.TheInside.{Inside}
use Rattle.ll_journal.specs.CommitCheck.{CommitCheck}
use Rattle.ll_journal.specs.CommitCheck as stops
use Rattle.ll_journal.specs.Book.{Seat, slot_of}
use Rattle.ll_journal.specs.Kept.{IsKept, world_of, book_of}
use Rattle.ll_journal.specs.Checks.{Lies, StopsBefore, blocked_at, goes_on, is_all_lent, stop_by}
use Rattle.ll_journal.specs.Seated.{here_in, next_in, next_of}
use Rattle.ll_journal.specs.Stopped.{IsStop}
use Rattle.ll_journal.proofs.Advances.{commit_none, commit_not_now, may_commit_blocked, may_commit_on_the_way}
use Rattle.ll_journal.proofs.Advances.{may_commit_stale}
use Rattle.ll_journal.proofs.AtEnds.{blocked_reply}
use Rattle.ll_journal.proofs.Descents.{turn_stands}
use Rattle.ll_journal.proofs.RootDescents.{walk_here}
use Rattle.ll_journal.proofs.LentMarks.{all_marked, leg_some, lies_held, misses_not}

-- ---- without a walk that goes on

fresh_if : (b : Bool) → not b ≡ false → b ≡ true
fresh_if true e = refl
fresh_if false e = absurd (cc e)

module _ (j : Inside) (h : IsKept j) (number place : ℕ) (seat : Seat) (at : slice_get j.seats.items place ≡ Some seat)
    (numbered : number ≡ suc place) (slots : List ℕ) where
  pub not_going : goes_on seat ≡ false → IsStop (book_of j) number slots stops.NotNow
  not_going e = by seat.walk refl e
    where
      by : (o : Option Walk) → seat.walk ≡ o → option_map_or (λ (walk : Walk). not walk.stale) o false ≡ false
          → advance (world_of j) (Commit number) ≡ (world.NotNow, world_of j)
      by None is f = commit_none (world_of j) number (walk_here j h number place seat at numbered ∙ is)
      by (Some walk) is f =
          let here = walk_here j h number place seat at numbered ∙ is in
          commit_not_now (world_of j) number walk here
          (may_commit_stale (world_of j) number walk here (fresh_if walk.stale f))

-- ---- with a name ahead

-- a walk that isn't stale, whose leg in turn stands here, with this name ahead
record OnWay (seat : Seat) (name : Name) (here : ℕ) : Type 0 where
  walk : Walk
  is : seat.walk ≡ Some walk
  fresh : walk.stale ≡ false
  leg : Leg
  in_turn : turn walk.at ≡ Some leg
  stands : leg.here ≡ here
  rest : Path
  ahead : leg.ahead ≡ name ∷ rest

first_name : (p : Path) (name : Name) → slice_get p 0 ≡ Some name → (rest : Path) × (p ≡ name ∷ rest)
first_name [] name e = absurd (cc e)
first_name (n ∷ p) name e = (p, ap (λ m. m ∷ p) (same_Some n name e))

on_way : (seat : Seat) (name : Name) (here : ℕ) → goes_on seat ≡ true → next_in seat ≡ Some name
    → here_in seat ≡ Some here → OnWay seat name here
on_way seat name here goes next stands = by_walk seat.walk refl goes next stands
  where
    by_turn : (walk : Walk) → seat.walk ≡ Some walk → not walk.stale ≡ true → (o : Option Leg) → turn walk.at ≡ o
        → option_and_then (λ (leg : Leg). slice_get leg.ahead 0) o ≡ Some name
        → option_map (λ (leg : Leg). leg.here) o ≡ Some here → OnWay seat name here
    by_turn walk is fresh None turned e f = absurd (cc e)
    by_turn walk is fresh (Some leg) turned e f =
        let first = first_name leg.ahead name e in
        record {
          walk = walk;
          is = is;
          fresh = not_true walk.stale fresh;
          leg = leg;
          in_turn = turned;
          stands = same_Some leg.here here f;
          rest = first.0;
          ahead = first.1;
        }

    by_walk : (o : Option Walk) → seat.walk ≡ o → option_map_or (λ (walk : Walk). not walk.stale) o false ≡ true
        → option_and_then (λ (walk : Walk). next_of walk.at) o ≡ Some name
        → option_and_then (λ (walk : Walk). option_map (λ (leg : Leg). leg.here) (turn walk.at)) o ≡ Some here
        → OnWay seat name here
    by_walk None is f e g = absurd (cc f)
    by_walk (Some walk) is f e g = by_turn walk is f (turn walk.at) refl e g

not_at_ends : (call : Call) (at : Position) (leg : Leg) → turn at ≡ Some leg → is_root leg.ahead ≡ false
    → at_ends call at ≡ false
not_at_ends call Above leg turned more = refl
not_at_ends call (Down trunk) leg turned more =
    ap (λ b. not (has_two_paths call) && b) (ap (λ (l : Leg). is_root l.ahead) (same_Some trunk leg turned) ∙ more)
    ∙ neither (not (has_two_paths call))
  where
    neither : (b : Bool) → (b && false) ≡ false
    neither true = refl
    neither false = refl
not_at_ends call (Split trunk old new) leg turned more =
    elim (is_root old.ahead) as (λ b. Some (cond b new old) ≡ Some leg → (b && is_root new.ahead) ≡ false) [
      | true ↦ λ e. ap (λ (l : Leg). is_root l.ahead) (same_Some new leg e) ∙ more
      | false ↦ λ e. refl
    ] turned

module _ (s : State) where
  -- what is found is no directory where there is a refusal
  blocked_if : (found : Option ℕ)
      → is_none (option_and_then (if_directory s) found) ≡ is_some (slice_get (no_directory (kind_of_child s found)) 0)
  blocked_if None = refl
  blocked_if (Some inode) = by (kind_of s inode)
    where
      by : (o : Option Kind) → is_none (cond (is_dir (unwrap_or o Reg)) (Some inode) None)
          ≡ is_some (slice_get (no_directory o) 0)
      by None = refl
      by (Some Reg) = refl
      by (Some Dir) = refl
      by (Some Sym) = refl
      by (Some Fifo) = refl
      by (Some Sock) = refl
      by (Some Char) = refl
      by (Some Block) = refl

  blocked_by : (leg : Leg) (name : Name) (rest : Path) → leg.ahead ≡ name ∷ rest
      → leg_is_blocked s leg ≡ is_some (slice_get (no_directory (kind_of_child s (get (names_map s leg.here) name))) 0)
  blocked_by leg name rest ahead =
      ap (is_blocked s leg.here) ahead
      ∙ ap (λ o. is_none (option_and_then (if_directory s) o)) (sym (get-names_map s leg.here name))
      ∙ blocked_if (get (names_map s leg.here) name)

-- the facts tell of the same kinds
refused_as : (j : Inside) → IsKept j → (found : Option ℕ)
    → blocked_at j.table.facts found ≡ slice_get (no_directory (kind_of_child (shown (world_of j)) found)) 0
refused_as j h None = refl
refused_as j h (Some inode) =
    ap (λ o. slice_get (no_directory o) 0) (kind_counted (shown (world_of j)) j.table.facts h.table.facts inode)

module _ (j : Inside) (h : IsKept j) (number place : ℕ) (seat : Seat) (at : slice_get j.seats.items place ≡ Some seat)
    (numbered : number ≡ suc place)
    (slots : List ℕ) (lent : List Held) (told : lent ≡ map (slot_of (book_of j)) slots) (goes : goes_on seat ≡ true)
    (all : is_all_lent lent seat ≡ true)
    (name : Name) (next : next_in seat ≡ Some name) (here : ℕ) (stands : here_in seat ≡ Some here) where
  abbrev w : World
  w = world_of j

  abbrev s : State
  s = shown w

  way : OnWay seat name here
  way = on_way seat name here goes next stands

  under_way : get w.walks number ≡ Some way.walk
  under_way = walk_here j h number place seat at numbered ∙ way.is

  marked : marks way.walk here ≡ true
  marked = ap (marks way.walk) (sym way.stands) ∙ turn_stands way.walk.at way.leg way.in_turn

  abbrev refusal : Option Errno
  refusal = slice_get (no_directory (kind_of_child s (get (names_map s way.leg.here) name))) 0

  blocked : option_map_or (leg_is_blocked s) (turn way.walk.at) false ≡ is_some refusal
  blocked = ap (λ o. option_map_or (leg_is_blocked s) o false) way.in_turn
      ∙ blocked_by s way.leg name way.rest way.ahead

  stops_for : (o : Option Errno) → refusal ≡ o → IsStop (book_of j) number slots (stop_by o)
  stops_for None e =
      commit_not_now w number way.walk under_way
      (may_commit_on_the_way w number way.walk under_way (blocked ∙ ap is_some e)
      (not_at_ends way.walk.call way.walk.at way.leg way.in_turn (ap is_root way.ahead)))
  stops_for (Some errno) e = record {
    walk = way.walk;
    ends = record {
      is = under_way;
      may = may_commit_blocked w number way.walk under_way way.fresh (blocked ∙ ap is_some e);
      marked = all_marked j h number place seat at numbered slots lent told way.walk way.is all;
    };
    reply = blocked_reply w number way.walk h.sound under_way way.fresh way.leg way.in_turn name way.rest way.ahead
        errno e;
  }

  some_here : here ≢ 0
  some_here = leg_some j h number place seat at numbered slots lent told way.walk way.is way.fresh here marked

  refused : (held : Held) → Lies lent here held → blocked_at j.table.facts (get held.node.names name) ≡ refusal
  refused held lies =
      refused_as j h (get held.node.names name)
      ∙ ap (λ (names : NameMap). slice_get (no_directory (kind_of_child s (get names name))) 0)
      (ap (λ (v : Held). v.node.names)
      (lies_held j h number place seat at numbered slots lent told held here lies some_here)
      ∙ ap (names_map s) (sym way.stands))

  pub stops_on_way : (stop : CommitCheck) → StopsBefore j.table.facts lent here name stop
      → IsStop (book_of j) number slots stop
  stops_on_way stop found = elim found [
    | inl it ↦ subst (IsStop (book_of j) number slots) (sym (it.2 ∙ ap stop_by (refused it.0 it.1)))
        (stops_for refusal refl)
    | inr away ↦ absurd (cc (sym (misses_not j h number place seat at numbered slots lent told here away.0)
        ∙ all_marked j h number place seat at numbered slots lent told way.walk way.is all here marked))
  ]
