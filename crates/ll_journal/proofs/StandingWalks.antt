-- Where a client's walk stands, and the slots where that lies.
use Rattle.std.specs.Prelude.{◌≡◌, ℕ, suc, ◌<◌, ◌≤◌, true, false, length, Option, Some, None, option_map}
use Rattle.std.specs.Prelude.{option_and_then, slice_get, IfSome, IfNone, refl}
use Rattle.std.specs.Option.{option_map_or}
use Rattle.std.proofs.Common.{sym, ap, ◌∙◌, arith}
use Rattle.std.proofs.lemmas.Option.{slice_get_within}
use Rattle.ll_rights.specs.declared.kind.Kind.TheVariants.{Dir}
use Rattle.ll_rights.specs.Map.{get}
use Rattle.ll_seq.specs.State.{kind_of, root, start}
use Rattle.ll_laws.proofs.Chains.{same_Some}
use Rattle.ll_laws.proofs.Gain.{after_tree, start_tree}
use Rattle.ll_laws.specs.Walk.{Walk, Leg, legs, marks, turn}
use Rattle.ll_laws.specs.World.{World, shown}
use Rattle.ll_journal.specs.declared.journal.Journal.TheInside.{Inside}
use Rattle.ll_node.specs.declared.held.Held.{Held}
use Rattle.ll_journal.specs.Book.{Seat, has_mark, inode_in, slot_of}
use Rattle.ll_journal.specs.Kept.{IsKept, book_of, seat_at, world_of}
use Rattle.ll_journal.specs.Needs.{slots_in}
use Rattle.ll_journal.specs.Seated.{here_in}
use Rattle.ll_journal.specs.Steps.{IsInTurn, leg_in_turn}
use Rattle.ll_journal.proofs.Descents.{living_placed, turn_stands}
use Rattle.ll_journal.proofs.RootDescents.{no_walk, walk_here}
use Rattle.ll_journal.proofs.GatheredSlots.{Gathers, few_gathered, gathers_legs, gathers_same, none_gathered}
use Rattle.ll_journal.proofs.LentAfter.{inode_is}
use Rattle.ll_journal.proofs.Looks.{index_there}

-- what is found of an inode: the slot where it lies
pub record IsPlaced (j : Inside) (inode : ℕ) (o : Option ℕ) : Type 0 where
  pub lies : IfSome o (λ slot. inode_in (book_of j) slot ≡ inode)
  pub within : IfSome o (λ slot. slot < length j.table.inodes)

pub is_placed : (j : Inside) → IsKept j → (inode : ℕ) (o : Option ℕ) → o ≡ get j.table.places inode → IsPlaced j inode o
is_placed j h inode None e = record { lies = tt; within = tt }
is_placed j h inode (Some slot) e =
    let there = (h.table.placed.there inode slot (sym e)).0 in
    record {
      lies = index_there j.table.inodes slot inode there;
      within = slice_get_within j.table.inodes slot inode there;
    }

-- the root lies in one
pub root_placed : (j : Inside) → IsKept j → get j.table.places root ≡ None → ⊥
root_placed j h e =
    let tree = after_tree (start j.rules j.room) j.history.entries (start_tree j.rules j.room) in
    let slot = living_placed j h root Dir tree.root_node in
    cc (sym e ∙ slot.1)

-- where a walk stands there is a directory, also where it is stale
stood_living : (j : Inside) → IsKept j → (number : ℕ) (walk : Walk) → get (world_of j).walks number ≡ Some walk
    → (inode : ℕ) → marks walk inode ≡ true → kind_of (shown (world_of j)) inode ≡ Some Dir
stood_living j h number walk is inode marked = h.sound.living number walk is inode marked

stood_placed : (j : Inside) → IsKept j → (number : ℕ) (walk : Walk) → get (world_of j).walks number ≡ Some walk
    → (inode : ℕ) → marks walk inode ≡ true → (slot : ℕ) × (get j.table.places inode ≡ Some slot)
stood_placed j h number walk is inode marked =
    living_placed j h inode Dir (stood_living j h number walk is inode marked)

-- ---- without a seat

module _ (j : Inside) (number : ℕ) (none : seat_at j.seats.items number ≡ None) where
  pub nobody_stands : (inode : ℕ) → false ≡ has_mark (world_of j) inode number
  nobody_stands inode = sym (ap (λ (o : Option Walk). option_map_or (λ (walk : Walk). marks walk inode) o false)
      (no_walk j number none))

  pub nobody_in_turn : leg_in_turn (world_of j) number ≡ None
  nobody_in_turn = ap (option_and_then (λ (walk : Walk). turn walk.at)) (no_walk j number none)

-- ---- with one

module _ (j : Inside) (h : IsKept j) (number place : ℕ) (seat : Seat) (at : slice_get j.seats.items place ≡ Some seat)
    (numbered : number ≡ suc place) where
  abbrev w : World
  w = world_of j

  walk_is : get w.walks number ≡ seat.walk
  walk_is = walk_here j h number place seat at numbered

  in_turn : leg_in_turn w number ≡ option_and_then (λ (walk : Walk). turn walk.at) seat.walk
  in_turn = ap (option_and_then (λ (walk : Walk). turn walk.at)) walk_is

  -- the slots of the directories where it stands
  pub stood_in : Gathers (book_of j) (slots_in j.table.places seat) (λ inode. has_mark w inode number)
  stood_in =
      gathers_same (book_of j) (slots_in j.table.places seat) _ _
      (λ inode. sym (ap (λ (o : Option Walk). option_map_or (λ (walk : Walk). marks walk inode) o false) walk_is))
      (by seat.walk walk_is)
    where
      by : (o : Option Walk) → get w.walks number ≡ o
          → Gathers (book_of j) (slots_in j.table.places (record seat { walk = o }))
          (λ inode. option_map_or (λ (walk : Walk). marks walk inode) o false)
      by None e = none_gathered (book_of j)
      by (Some walk) e = gathers_legs (book_of j) j.table.places h.table.placed (legs walk.at)
          (stood_placed j h number walk e)

  pub few_stood : length (slots_in j.table.places seat) ≤ 3
  few_stood = elim seat.walk as (λ o. length (slots_in j.table.places (record seat { walk = o })) ≤ 3)
      [ None ↦ omega arith | Some walk ↦ few_gathered j.table.places walk.at ]

  -- ---- the leg in turn

  pub not_in_turn : here_in seat ≡ None → leg_in_turn w number ≡ None
  not_in_turn e = in_turn ∙ by seat.walk e
    where
      by : (o : Option Walk) → option_and_then (λ (walk : Walk). option_map (λ (leg : Leg). leg.here) (turn walk.at)) o
          ≡ None → option_and_then (λ (walk : Walk). turn walk.at) o ≡ None
      by None e = refl
      by (Some walk) e = elim (turn walk.at) as (λ (t : Option Leg). option_map (λ (leg : Leg). leg.here) t ≡ None
          → t ≡ None) [ None ↦ λ f. refl | Some leg ↦ λ f. absurd (cc f) ] e

  -- the leg that stands here
  leg_here : (inode : ℕ) → here_in seat ≡ Some inode → (leg : Leg) × (leg_in_turn w number ≡ Some leg)
      × (leg.here ≡ inode) × ((slot : ℕ) × (get j.table.places inode ≡ Some slot))
  leg_here inode e = by seat.walk walk_is e
    where
      by_turn : (walk : Walk) → get w.walks number ≡ Some walk → (t : Option Leg) → turn walk.at ≡ t
          → option_map (λ (leg : Leg). leg.here) t ≡ Some inode
          → (leg : Leg) × (leg_in_turn w number ≡ Some leg) × (leg.here ≡ inode)
          × ((slot : ℕ) × (get j.table.places inode ≡ Some slot))
      by_turn walk is None turned f = absurd (cc f)
      by_turn walk is (Some leg) turned f =
          let here : leg.here ≡ inode = same_Some leg.here inode f in (
            leg,
            ap (option_and_then (λ (v : Walk). turn v.at)) is ∙ turned,
            here,
            stood_placed j h number walk is inode (ap (marks walk) (sym here) ∙ turn_stands walk.at leg turned),
          )

      by : (o : Option Walk) → get w.walks number ≡ o
          → option_and_then (λ (walk : Walk). option_map (λ (leg : Leg). leg.here) (turn walk.at)) o ≡ Some inode
          → (leg : Leg) × (leg_in_turn w number ≡ Some leg) × (leg.here ≡ inode)
          × ((slot : ℕ) × (get j.table.places inode ≡ Some slot))
      by None is f = absurd (cc f)
      by (Some walk) is f = by_turn walk is (turn walk.at) refl f

  module _ (inode : ℕ) (here : here_in seat ≡ Some inode) (slot : ℕ) (held : Held)
      (lent : held ≡ slot_of (book_of j) slot) where
    pub in_turn_here : inode ≡ held.inode → IsInTurn (book_of j) number slot
    in_turn_here same leg is =
        let known = leg_here inode here in
        sym (inode_is (book_of j) slot held lent) ∙ sym same ∙ sym known.2
        ∙ ap (λ (l : Leg). l.here) (same_Some known.0 leg (sym known.1 ∙ is))

    pub only_in_turn : IsInTurn (book_of j) number slot → inode ≡ held.inode
    only_in_turn at =
        let known = leg_here inode here in
        sym (inode_is (book_of j) slot held lent ∙ at known.0 known.1 ∙ known.2)

  module _ (inode : ℕ) (here : here_in seat ≡ Some inode) (o : Option ℕ) (found : o ≡ get j.table.places inode) where
    pub turn_lies : IfSome o (λ slot. (leg : Leg) × (leg_in_turn w number ≡ Some leg)
        × (inode_in (book_of j) slot ≡ leg.here))
    turn_lies = by o found
      where
        by : (o : Option ℕ) → o ≡ get j.table.places inode
            → IfSome o (λ slot. (leg : Leg) × (leg_in_turn w number ≡ Some leg)
            × (inode_in (book_of j) slot ≡ leg.here))
        by None e = tt
        by (Some slot) e = let leg = leg_here inode here in
            (leg.0, leg.1, (is_placed j h inode (Some slot) e).lies ∙ sym leg.2)

    pub turn_there : IfNone o (leg_in_turn w number ≡ None)
    turn_there = by o found
      where
        by : (o : Option ℕ) → o ≡ get j.table.places inode → IfNone o (leg_in_turn w number ≡ None)
        by None e = let leg = leg_here inode here in absurd (cc (e ∙ leg.3.1))
        by (Some slot) e = tt
