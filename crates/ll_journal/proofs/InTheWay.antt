-- What stands in the way of a walk at its ends, as the journal finds it in one directory.
use Rattle.std.specs.Prelude.{◌≡◌, ◌⊎◌, ℕ, suc, Bool, true, false, cond, not, ◌&&◌, ◌==◌, List, [], ◌∷◌}
use Rattle.std.specs.Prelude.{Option, Some, None, option_map, option_and_then, slice_get, IfSome, IfNone, refl}
use Rattle.std.specs.Option.{option_map_or}
use Rattle.std.specs.List.{list_any}
use Rattle.std.proofs.Common.{sym, ap, ◌∙◌, inl, inr}
use Rattle.std.proofs.lemmas.Bool.{eqb-true, eq-eqb}
use Rattle.ll_rights.specs.declared.kind.Kind.TheVariants.{Dir}
use Rattle.ll_rights.specs.Map.{get}
use Rattle.ll_path.specs.Path.{Path, is_root}
use Rattle.ll_path.specs.declared.target.Target.{Target}
use Rattle.ll_seq.specs.declared.found.Spot.{Spot}
use Rattle.ll_seq.specs.declared.found.There.{There}
use Rattle.ll_seq.specs.declared.call.Call.{Call}
use Rattle.ll_seq.specs.Call.{first_of, first_path, path_of, second_of, second_path, targets}
use Rattle.ll_seq.specs.State.{State, start}
use Rattle.ll_seq.proofs.Parted.{or_left, or_right}
use Rattle.ll_laws.proofs.Gain.{after_tree, start_tree}
use Rattle.ll_laws.proofs.Granted.{kind_known}
use Rattle.ll_laws.proofs.Trees.{IsTree}
use Rattle.ll_laws.proofs.Chains.{same_Some}
use Rattle.ll_laws.specs.Commits.{first_end, second_end}
use Rattle.ll_laws.specs.Walk.{Walk, Leg, at_ends, is_in}
use Rattle.ll_laws.specs.World.{World, domain_of, is_marked_by_other, last_node, last_nodes, shown}
use Rattle.ll_laws.proofs.Tests.{both}
use Rattle.ll_node.specs.declared.held.Held.{Held}
use Rattle.ll_journal.specs.declared.journal.Journal.TheInside.{Inside}
use Rattle.ll_journal.specs.Book.{Book, Seat, held_of, inode_in, slot_of}
use Rattle.ll_journal.specs.Kept.{IsKept, book_of, world_of}
use Rattle.ll_journal.specs.Checks.{goes_on, is_marked_at, spot_at}
use Rattle.ll_journal.specs.InWay.{IsFreeFrom, IsInWay, node_at_end, node_in_way}
use Rattle.ll_journal.specs.Seated.{call_in, first_here_in, is_at_ends, second_here_in}
use Rattle.ll_journal.proofs.AtEnds.{IsEnd, any_last, first_is_end, second_is_end}
use Rattle.ll_journal.proofs.Descents.{living_one, living_placed}
use Rattle.ll_journal.proofs.RootDescents.{walk_here}
use Rattle.ll_journal.proofs.LastSpots.{IsThere, last_found, marked_last, there_last}
use Rattle.ll_journal.proofs.LentSlots.{slot_holds, slot_inode}
use Rattle.ll_journal.proofs.StandingWalks.{is_placed}
use Rattle.ll_journal.proofs.StopsAtLast.{standing, walking}

-- ---- one path

-- the node is found here: the leg ends here, and the node, under the last name, is marked
record IsFound (marked : ℕ → Bool) (end : Option ℕ) (held : Held) (path : Path) (spot : Spot) (node : ℕ) : Type 0 where
  pub ends : end ≡ Some held.inode
  pub marked_is : marked node ≡ true
  pub last : is_marked_at (λ inode. inode == node) path spot ≡ true

module _ (marked : ℕ → Bool) (held : Held) (path : Path) (spot : Spot) where
  found : (end : Option ℕ) (node : ℕ) → node_at_end marked end held path spot ≡ Some node
      → IsFound marked end held path spot node
  found None node e = absurd (cc e)
  found (Some here) node e = by (here == held.inode) refl (is_root path) refl spot.there refl e
    where
      by : (t : Bool) → (here == held.inode) ≡ t → (top : Bool) → is_root path ≡ top → (there : Option There)
          → spot.there ≡ there
          → cond (t && (not top && option_map_or (λ (x : There). marked x.inode) there false))
          (option_map (λ (x : There). x.inode) there) None ≡ Some node
          → IsFound marked (Some here) held path spot node
      by false here_is top top_is there there_is f = absurd (cc f)
      by true here_is true top_is there there_is f = absurd (cc f)
      by true here_is false top_is None there_is f = absurd (cc f)
      by true here_is false top_is (Some x) there_is f =
          elim (marked x.inode) as (λ m. marked x.inode ≡ m → cond m (Some x.inode) None ≡ Some node
          → IsFound marked (Some here) held path spot node) [
            | true ↦ λ m_is g.
                let same : x.inode ≡ node = same_Some x.inode node g in
                record {
                  ends = ap (λ n. Some n) (eqb-true here held.inode here_is);
                  marked_is = ap marked (sym same) ∙ m_is;
                  last = (λ i. not (top_is i)
                      && option_map_or (λ (y : There). y.inode == node) (there_is i) false)
                      ∙ eq-eqb x.inode node same;
                }
            | false ↦ λ m_is g. absurd (cc g)
          ] refl f

  -- where none is found and the leg ends here, the node isn't marked
  not_found : (end : Option ℕ) → node_at_end marked end held path spot ≡ None → end ≡ Some held.inode
      → is_marked_at marked path spot ≡ false
  not_found end none is =
      by (is_root path) spot.there
      (sym (ap (λ t. cond (t && is_marked_at marked path spot) (option_map (λ (x : There). x.inode) spot.there) None)
      (ap (λ (o : Option ℕ). option_map_or (λ here. here == held.inode) o false) is
      ∙ eq-eqb held.inode held.inode refl)) ∙ none)
    where
      by : (top : Bool) (there : Option There)
          → cond (not top && option_map_or (λ (x : There). marked x.inode) there false)
          (option_map (λ (x : There). x.inode) there) None ≡ None
          → (not top && option_map_or (λ (x : There). marked x.inode) there false) ≡ false
      by true there f = refl
      by false None f = refl
      by false (Some x) f = elim (marked x.inode) as (λ m. cond m (Some x.inode) None ≡ None → m ≡ false)
          [ true ↦ λ g. absurd (cc g) | false ↦ λ g. refl ] f

-- ---- both paths

-- a node under the last name of one of the call's paths is under one of its last names
module _ (s : State) (call : Call) (node : ℕ) where
  abbrev f : ℕ → Bool
  f = λ inode. inode == node

  abbrev at : Target → Bool
  at t = list_any f (last_node s (path_of t))

  under_first : (ts : List Target) → list_any f (last_node s (first_of ts)) ≡ true → list_any at ts ≡ true
  under_first [] e = absurd (cc e)
  under_first (t ∷ ts) e = or_left (at t) (list_any at ts) e

  under_second : (ts : List Target) → list_any f (last_node s (second_of ts)) ≡ true → list_any at ts ≡ true
  under_second [] e = absurd (cc e)
  under_second (t ∷ []) e = or_left (at t) false e
  under_second (t ∷ (u ∷ ts)) e = or_right (at t) (list_any at (u ∷ ts)) (or_left (at u) (list_any at ts) e)

  first_among : is_in (last_node s (first_path call)) node ≡ true → is_in (last_nodes s call) node ≡ true
  first_among e = any_last s call f ∙ under_first (targets call) e

  second_among : is_in (last_node s (second_path call)) node ≡ true → is_in (last_nodes s call) node ≡ true
  second_among e = any_last s call f ∙ under_second (targets call) e

-- what is told of the one path, or else of the other
of_either : (one other : Option ℕ) (node : ℕ) → option_map_or (λ n. Some n) one other ≡ Some node
    → (one ≡ Some node) ⊎ (other ≡ Some node)
of_either None other node e = inr e
of_either (Some n) other node e = inl e

of_neither : (one other : Option ℕ) → option_map_or (λ n. Some n) one other ≡ None → (one ≡ None) × (other ≡ None)
of_neither None other e = (refl, e)
of_neither (Some n) other e = absurd (cc e)

module _ (j : Inside) (h : IsKept j) (number : ℕ) (seat : Seat) (walk : Walk)
    (is : get (world_of j).walks number ≡ Some walk) (walks : seat.walk ≡ Some walk) (fresh : walk.stale ≡ false)
    (ends : at_ends walk.call walk.at ≡ true) (held : Held) (k : ℕ) (lent : held ≡ slot_of (book_of j) k) where
  abbrev w : World
  w = world_of j

  abbrev b : Book
  b = book_of j

  abbrev s : State
  s = shown w

  abbrev marked : ℕ → Bool
  marked = is_marked_by_other w number

  tree : IsTree s
  tree = after_tree (start j.rules j.room) j.history.entries (start_tree j.rules j.room)

  inode_is : held.inode ≡ inode_in b k
  inode_is = ap (λ (v : Held). v.inode) lent ∙ slot_inode b k

  -- what the directory has under the last name of a path that ends there
  module _ (path : Path) (leg : Leg) (end : IsEnd s (domain_of w number) path leg) (here : leg.here ≡ held.inode) where
    account : held ≡ held_of w leg.here
    account =
        lent ∙ slot_holds b k leg.here (sym inode_is ∙ sym here) (living_one j h leg.here Dir end.directory)

    there : IsThere s path (spot_at j.table.facts held path)
    there = there_last s tree j.table.facts h.table.facts (domain_of w number) path leg end held (sym here)
        (ap (λ (v : Held). v.node.names) account)

    names_node : (node : ℕ) → is_marked_at (λ inode. inode == node) path (spot_at j.table.facts held path) ≡ true
        → is_in (last_node s path) node ≡ true
    names_node node e = sym (marked_last s path (spot_at j.table.facts held path) there (λ inode. inode == node)) ∙ e

    left : is_marked_at marked path (spot_at j.table.facts held path) ≡ false
        → list_any marked (last_node s path) ≡ false
    left e = sym (marked_last s path (spot_at j.table.facts held path) there marked) ∙ e

    placed : (node : ℕ) → is_in (last_node s path) node ≡ true → (slot : ℕ) × (get j.table.places node ≡ Some slot)
    placed node e =
        let names = last_found s path (spot_at j.table.facts held path) there node e in
        let kind = kind_known s tree path node names.0 in
        living_placed j h node kind.0 kind.1

  -- the legs that end here
  first_leg_at : (i : ℕ) → first_here_in seat ≡ Some i → (leg : Leg) × (first_end walk.at ≡ Some leg) × (leg.here ≡ i)
  first_leg_at i e = standing (first_end walk.at) i
      (ap (option_and_then (λ (v : Walk). option_map (λ (leg : Leg). leg.here) (first_end v.at))) (sym walks) ∙ e)

  second_leg_at : (i : ℕ) → second_here_in seat ≡ Some i
      → (leg : Leg) × (second_end walk.at ≡ Some leg) × (leg.here ≡ i)
  second_leg_at i e = standing (second_end walk.at) i
      (ap (option_and_then (λ (v : Walk). option_map (λ (leg : Leg). leg.here) (second_end v.at))) (sym walks) ∙ e)

  first_here_at : (leg : Leg) → first_end walk.at ≡ Some leg → first_here_in seat ≡ Some leg.here
  first_here_at leg e =
      ap (option_and_then (λ (v : Walk). option_map (λ (l : Leg). l.here) (first_end v.at))) walks
      ∙ ap (option_map (λ (l : Leg). l.here)) e

  second_here_at : (leg : Leg) → second_end walk.at ≡ Some leg → second_here_in seat ≡ Some leg.here
  second_here_at leg e =
      ap (option_and_then (λ (v : Walk). option_map (λ (l : Leg). l.here) (second_end v.at))) walks
      ∙ ap (option_map (λ (l : Leg). l.here)) e

  abbrev first_node : Option ℕ
  first_node = node_at_end marked (first_here_in seat) held (first_path walk.call)
      (spot_at j.table.facts held (first_path walk.call))

  abbrev second_node : Option ℕ
  second_node = node_at_end marked (second_here_in seat) held (second_path walk.call)
      (spot_at j.table.facts held (second_path walk.call))

  -- what is told of a node that is in the way
  pub record IsTold (node : ℕ) : Type 0 where
    pub named : is_in (last_nodes s walk.call) node ≡ true
    pub marked_is : marked node ≡ true
    pub lies : (slot : ℕ) × (get j.table.places node ≡ Some slot)

  first_told : (node : ℕ) → first_node ≡ Some node → IsTold node
  first_told node e =
      let it = found marked held (first_path walk.call) (spot_at j.table.facts held (first_path walk.call))
      (first_here_in seat) node e in
      let leg = first_leg_at held.inode it.ends in
      let end = first_is_end w number walk h.sound is fresh ends leg.0 leg.1 in
      let last = names_node (first_path walk.call) leg.0 end leg.2 node it.last in
      record {
        named = first_among s walk.call node last;
        marked_is = it.marked_is;
        lies = placed (first_path walk.call) leg.0 end leg.2 node last;
      }

  second_told : (node : ℕ) → second_node ≡ Some node → IsTold node
  second_told node e =
      let it = found marked held (second_path walk.call) (spot_at j.table.facts held (second_path walk.call))
      (second_here_in seat) node e in
      let leg = second_leg_at held.inode it.ends in
      let end = second_is_end w number walk h.sound is fresh ends leg.0 leg.1 in
      let last = names_node (second_path walk.call) leg.0 end leg.2 node it.last in
      record {
        named = second_among s walk.call node last;
        marked_is = it.marked_is;
        lies = placed (second_path walk.call) leg.0 end leg.2 node last;
      }

  pub told : (node : ℕ)
      → node_in_way marked j.table.facts (first_here_in seat) (second_here_in seat) held walk.call ≡ Some node
      → IsTold node
  told node e =
      elim (of_either first_node second_node node e) [ inl one ↦ first_told node one | inr two ↦ second_told node two ]

  -- its slot is in the way
  pub in_way : (node : ℕ) → IsTold node → (o : Option ℕ) → o ≡ get j.table.places node → IfSome o (IsInWay b number)
  in_way node it None e = tt
  in_way node it (Some slot) e =
      let lies : inode_in b slot ≡ node = (is_placed j h node (Some slot) e).lies in
      record {
        walk = walk;
        is = is;
        ends = ends;
        named = ap (is_in (last_nodes s walk.call)) lies ∙ it.named;
        marked = ap marked lies ∙ it.marked_is;
      }

  pub some_slot : (node : ℕ) → IsTold node → (P : Type 0) (o : Option ℕ) → o ≡ get j.table.places node → IfNone o P
  some_slot node it P None e = absurd (cc (e ∙ it.lies.1))
  some_slot node it P (Some slot) e = tt

  -- without such a node nothing is in the way here
  pub free_from : node_in_way marked j.table.facts (first_here_in seat) (second_here_in seat) held walk.call ≡ None
      → (leg : Leg) → leg.here ≡ inode_in b k
      → (first_end walk.at ≡ Some leg → list_any marked (last_node s (first_path walk.call)) ≡ false)
      × (second_end walk.at ≡ Some leg → list_any marked (last_node s (second_path walk.call)) ≡ false)
  free_from none leg at_here =
      let neither = of_neither first_node second_node none in
      let here : leg.here ≡ held.inode = at_here ∙ sym inode_is in (
        λ e. left (first_path walk.call) leg (first_is_end w number walk h.sound is fresh ends leg e) here
            (not_found marked held (first_path walk.call) (spot_at j.table.facts held (first_path walk.call))
            (first_here_in seat) neither.0 (first_here_at leg e ∙ ap (λ n. Some n) here)),
        λ e. left (second_path walk.call) leg (second_is_end w number walk h.sound is fresh ends leg e) here
            (not_found marked held (second_path walk.call) (spot_at j.table.facts held (second_path walk.call))
            (second_here_in seat) neither.1 (second_here_at leg e ∙ ap (λ n. Some n) here)),
      )

-- ---- at a seat

-- a walk that goes on and is at its ends has come
pub has_come : (seat : Seat) (walk : Walk) → seat.walk ≡ Some walk → walk.stale ≡ false
    → at_ends walk.call walk.at ≡ true → (goes_on seat && is_at_ends seat) ≡ true
has_come seat walk is fresh ends =
    ap (λ (o : Option Walk). option_map_or (λ (v : Walk). not v.stale) o false
    && option_map_or (λ (v : Walk). at_ends v.call v.at) o false) is ∙ (λ i. not (fresh i) && ends i)

module _ (j : Inside) (h : IsKept j) (number place : ℕ) (seat : Seat) (at : slice_get j.seats.items place ≡ Some seat)
    (numbered : number ≡ suc place) (held : Held) (k : ℕ) (lent : held ≡ slot_of (book_of j) k) (call : Call)
    (call_is : Some call ≡ call_in seat) (come : (goes_on seat && is_at_ends seat) ≡ true) (o : Option ℕ)
    (found_is : o ≡ node_in_way (is_marked_by_other (world_of j) number) j.table.facts (first_here_in seat)
    (second_here_in seat) held call) where
  here : (walk : Walk) → seat.walk ≡ Some walk → get (world_of j).walks number ≡ Some walk
  here walk is = walk_here j h number place seat at numbered ∙ is

  ends_is : (walk : Walk) → seat.walk ≡ Some walk → at_ends walk.call walk.at ≡ true
  ends_is walk is = sym (ap (λ (u : Option Walk). option_map_or (λ (v : Walk). at_ends v.call v.at) u false) is)
      ∙ (both (goes_on seat) (is_at_ends seat) come).1

  of_walk : (walk : Walk) → seat.walk ≡ Some walk → o ≡ node_in_way (is_marked_by_other (world_of j) number)
      j.table.facts (first_here_in seat) (second_here_in seat) held walk.call
  of_walk walk is = found_is ∙ ap (node_in_way (is_marked_by_other (world_of j) number) j.table.facts
      (first_here_in seat) (second_here_in seat) held)
      (same_Some call walk.call (call_is ∙ ap (option_map (λ (v : Walk). v.call)) is))

  walk_there : (walk : Walk) × (seat.walk ≡ Some walk) × (walk.stale ≡ false)
  walk_there = walking seat.walk (both (goes_on seat) (is_at_ends seat) come).0

  -- with a node that is found: the slot where it lies is told, and is in the way
  module _ (node : ℕ) (some : o ≡ Some node) (p : Option ℕ) (slot_is : p ≡ get j.table.places node) where
    it : IsTold j h number seat walk_there.0 (here walk_there.0 walk_there.1) walk_there.1 walk_there.2
        (ends_is walk_there.0 walk_there.1) held k lent node
    it = told j h number seat walk_there.0 (here walk_there.0 walk_there.1) walk_there.1 walk_there.2
        (ends_is walk_there.0 walk_there.1) held k lent node (sym (of_walk walk_there.0 walk_there.1) ∙ some)

    pub told_in_way : IfSome p (IsInWay (book_of j) number)
    told_in_way = in_way j h number seat walk_there.0 (here walk_there.0 walk_there.1) walk_there.1 walk_there.2
        (ends_is walk_there.0 walk_there.1) held k lent node it p slot_is

    pub told_some : (P : Type 0) → IfNone p P
    told_some P = some_slot j h number seat walk_there.0 (here walk_there.0 walk_there.1) walk_there.1 walk_there.2
        (ends_is walk_there.0 walk_there.1) held k lent node it P p slot_is

  -- without one nothing is
  pub none_in_way : o ≡ None → IsFreeFrom (book_of j) number k
  none_in_way none walk is fresh ends =
      let walks : seat.walk ≡ Some walk = sym (walk_here j h number place seat at numbered) ∙ is in
      free_from j h number seat walk is walks fresh ends held k lent (sym (of_walk walk walks) ∙ none)
