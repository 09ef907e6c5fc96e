-- Which slots a walk's commit needs, by what is found where its leg in turn stands.
use Rattle.std.specs.Prelude.{◌≡◌, ℕ, zero, suc, ◌<◌, Bool, true, false, cond, ◌||◌, ◌==◌, List, [], ◌∷◌, ◌++◌, length}
use Rattle.std.specs.Prelude.{nat_le, Option, Some, None, option_and_then, slice_get, slice_index_or, IfSome, refl}
use Rattle.std.specs.List.{AllByRecursion}
use Rattle.std.specs.Option.{option_map_or}
use Rattle.std.proofs.Common.{sym, subst, ap, ◌∙◌, inl, inr}
use Rattle.std.proofs.lemmas.Bool.{eq-eqb}
use Rattle.std.proofs.lemmas.Option.{slice_get_within}
use Rattle.ll_rights.specs.declared.kind.Kind.TheVariants.{Dir}
use Rattle.ll_rights.specs.Map.{get, len}
use Rattle.ll_path.specs.Path.{is_root}
use Rattle.ll_seq.specs.Near.{may_make, nodes_of}
use Rattle.ll_seq.specs.declared.found.Found.{Found}
use Rattle.ll_seq.specs.declared.call.Call.{Call}
use Rattle.ll_seq.specs.Call.{second_path}
use Rattle.ll_seq.specs.State.{State, root, start}
use Rattle.ll_seq.proofs.Parted.{or_left, or_right}
use Rattle.ll_laws.proofs.Chains.{same_Some}
use Rattle.ll_laws.proofs.Gain.{after_tree, start_tree}
use Rattle.ll_laws.proofs.Granted.{kind_known}
use Rattle.ll_laws.proofs.Trees.{IsTree}
use Rattle.ll_node.specs.InodeTable.{IsVacant}
use Rattle.ll_laws.specs.Commits.{second_end}
use Rattle.ll_laws.specs.Walk.{Walk, Leg, Position, Above, Down, Split, at_ends, is_in, marks, turn}
use Rattle.ll_laws.specs.World.{World, domain_of, shown}
use Rattle.ll_laws.proofs.Tests.{both}
use Rattle.ll_node.specs.declared.held.Held.{Held}
use Rattle.ll_journal.specs.declared.journal.Journal.TheInside.{Inside}
use Rattle.ll_journal.specs.Book.{Book, Seat, has_mark, held_of, inode_in, slot_of}
use Rattle.ll_journal.specs.Kept.{IsKept, book_of, spares_of, world_of}
use Rattle.ll_journal.specs.Checks.{found_at, spot_at}
use Rattle.ll_journal.specs.Needs.{IsBesides, slot_besides, with_slot}
use Rattle.ll_journal.specs.Steps.{IsInTurn}
use Rattle.ll_journal.specs.WalkEnds.{AreEnough, IsNeeded, nodes_at_end, spare_of}
use Rattle.ll_journal.proofs.AtEnds.{IsEnd, second_is_end}
use Rattle.ll_journal.proofs.Descents.{living_one, living_placed, turn_stands}
use Rattle.ll_node.proofs.SlotLists.{all_more}
use Rattle.ll_journal.proofs.GatheredSlots.{Gathers, gathers_slot, lent_already}
use Rattle.ll_journal.proofs.LastSpots.{IsThere, first_last, last_first, makes_last, there_last}
use Rattle.ll_journal.proofs.LentSlots.{slot_holds}
use Rattle.ll_journal.proofs.StandingWalks.{is_placed}
use Rattle.ll_journal.proofs.StopsAtLast.{root_end, spare_is}

-- at its ends a walk's leg in turn is the second path's
turn_is_second : (call : Call) (at : Position) → at_ends call at ≡ true → turn at ≡ second_end at
turn_is_second call Above e = absurd (cc e)
turn_is_second call (Down trunk) e = refl
turn_is_second call (Split trunk old new) e =
    ap (λ t. Some (cond t new old)) (both (is_root old.ahead) (is_root new.ahead) e).0

end_leg : (call : Call) (at : Position) → at_ends call at ≡ true → (leg : Leg) × (second_end at ≡ Some leg)
end_leg call Above e = absurd (cc e)
end_leg call (Down trunk) e = (trunk, refl)
end_leg call (Split trunk old new) e = (new, refl)

all_at : (P : ℕ → Type 0) (seats : List Seat) (place : ℕ) (seat : Seat) → slice_get seats place ≡ Some seat
    → AllByRecursion P (spares_of seats) → P seat.spare
all_at P [] place seat e all = absurd (cc e)
all_at P (x ∷ seats) zero seat e all = subst (λ (v : Seat). P v.spare) (same_Some x seat e) all.0
all_at P (x ∷ seats) (suc place) seat e all = all_at P seats place seat e all.1

-- ---- the slot besides

module _ (j : Inside) (h : IsKept j) (number place : ℕ) (seat : Seat) (at : slice_get j.seats.items place ≡ Some seat)
    (numbered : number ≡ suc place) where
  abbrev w : World
  w = world_of j

  abbrev b : Book
  b = book_of j

  abbrev s : State
  s = shown w

  tree : IsTree s
  tree = after_tree (start j.rules j.room) j.history.entries (start_tree j.rules j.room)

  spare_here : spare_of b number ≡ seat.spare
  spare_here = spare_is j h number place seat at numbered [] [] refl

  pub besides_within : (call : Call) (found : Found) (o : Option ℕ)
      → o ≡ slot_besides j.table.places seat.spare call found → IfSome o (λ slot. slot < length j.table.inodes)
  besides_within call found o is =
      elim (may_make call found) as
      (λ t. o ≡ cond t (Some seat.spare) (get j.table.places (slice_index_or (nodes_of call found) 0 0))
      → IfSome o (λ slot. slot < length j.table.inodes)) [
        | true ↦ λ e. subst (λ (p : Option ℕ). IfSome p (λ slot. slot < length j.table.inodes)) (sym e)
            (slice_get_within j.table.inodes seat.spare 0
            (all_at (IsVacant j.table.inodes) j.seats.items place seat at h.table.spares))
        | false ↦ λ e. (is_placed j h (slice_index_or (nodes_of call found) 0 0) o e).within
      ] is

  module _ (held : Held) (k : ℕ) (lent : held ≡ slot_of b k) (turned : IsInTurn b number k) (walk : Walk)
      (is : get w.walks number ≡ Some walk) (fresh : walk.stale ≡ false) (ends : at_ends walk.call walk.at ≡ true) where
    abbrev full : Bool
    full = nat_le j.room (len s.nodes)

    last : (leg : Leg) × (second_end walk.at ≡ Some leg)
    last = end_leg walk.call walk.at ends

    end : IsEnd s (domain_of w number) (second_path walk.call) last.0
    end = second_is_end w number walk h.sound is fresh ends last.0 last.1

    account : held ≡ held_of w last.0.here
    account =
        lent ∙ slot_holds b k last.0.here
        (turned last.0 (ap (option_and_then (λ (v : Walk). turn v.at)) is ∙ turn_is_second walk.call walk.at ends
        ∙ last.1))
        (living_one j h last.0.here Dir end.directory)

    there : IsThere s (second_path walk.call) (spot_at j.table.facts held (second_path walk.call))
    there =
        there_last s tree j.table.facts h.table.facts (domain_of w number) (second_path walk.call) last.0 end held
        (ap (λ (v : Held). v.inode) account) (ap (λ (v : Held). v.node.names) account)

    abbrev found_here : Found
    found_here = found_at j.table.facts full held held walk.call

    abbrev other : Bool → Option ℕ
    other t = cond t (Some seat.spare) (get j.table.places (slice_index_or (nodes_of walk.call found_here) 0 0))

    -- the root is where it stands
    root_stood : is_root (second_path walk.call) ≡ true → marks walk root ≡ true
    root_stood top =
        ap (marks walk) (sym (root_end s (second_path walk.call) last.0.here top end.names))
        ∙ turn_stands walk.at last.0 (turn_is_second walk.call walk.at ends ∙ last.1)

    node_needed : (o : Option ℕ) → o ≡ get j.table.places (slice_index_or (nodes_of walk.call found_here) 0 0)
        → IfSome o (IsNeeded b number walk)
    node_needed None e = tt
    node_needed (Some slot) e =
        let lies = (is_placed j h (slice_index_or (nodes_of walk.call found_here) 0 0) (Some slot) e).lies in
        elim (first_last s j.table.facts full held walk.call there
        (h.table.placed.there (slice_index_or (nodes_of walk.call found_here) 0 0) slot (sym e)).1) [
          | inl top ↦ inl (ap (marks walk) (lies ∙ top.1) ∙ root_stood top.0)
          | inr node ↦ inr (inl (ends, ap (is_in (nodes_at_end s walk.call)) lies ∙ node))
        ]

    needed_here : (t : Bool) → may_make walk.call found_here ≡ t → IfSome (other t) (IsNeeded b number walk)
    needed_here true e = inr (inr (
      ends,
      sym (makes_last s j.table.facts full held walk.call there)
          ∙ e,
      sym spare_here,
    ))
    needed_here false e = node_needed (get j.table.places (slice_index_or (nodes_of walk.call found_here) 0 0)) refl

    besides_here : IsBesides b number walk (other (may_make walk.call found_here))
    besides_here = record {
      needed = needed_here (may_make walk.call found_here) refl;
      nodes = λ at_end inode e.
          let first = last_first s j.table.facts full held walk.call there inode e in
          let kind = kind_known s tree (second_path walk.call) inode first.names in
          let slot = living_placed j h inode kind.0 kind.1 in (
            slot.0,
            ap other first.kept ∙ ap (get j.table.places) first.first
                ∙ slot.1,
            (is_placed j h inode (Some slot.0) (sym slot.1)).lies,
          );
      spare = λ at_end makes. ap other (makes_last s j.table.facts full held walk.call there ∙ makes)
          ∙ ap (λ k. Some k) (sym spare_here);
    }

    pub besides_is : (found : Found) → found ≡ found_here → (o : Option ℕ)
        → o ≡ slot_besides j.table.places seat.spare walk.call found → IsBesides b number walk o
    besides_is found same o told =
        subst (IsBesides b number walk) (sym (told ∙ ap (slot_besides j.table.places seat.spare walk.call) same))
        besides_here

-- none, where it isn't at its ends
pub not_besides : (b : Book) (number : ℕ) (walk : Walk) → at_ends walk.call walk.at ≡ false
    → IsBesides b number walk None
not_besides b number walk e = record {
  needed = tt;
  nodes = λ at_end inode k. absurd (cc (sym e ∙ at_end));
  spare = λ at_end makes. absurd (cc (sym e ∙ at_end));
}

-- ---- enough

module _ (b : Book) (number : ℕ) (walk : Walk) (is : get b.world.walks number ≡ Some walk) (slots : List ℕ)
    (stood : Gathers b slots (λ inode. has_mark b.world inode number)) where
  marked_has : (inode : ℕ) → has_mark b.world inode number ≡ marks walk inode
  marked_has inode = ap (λ (o : Option Walk). option_map_or (λ (v : Walk). marks v inode) o false) is

  stood_needed : (ks : List ℕ) → ((k : ℕ) → is_in ks k ≡ true → is_in slots k ≡ true)
      → AllByRecursion (IsNeeded b number walk) ks
  stood_needed [] within = tt
  stood_needed (k ∷ ks) within = (
    inl (sym (marked_has (inode_in b k)) ∙ sym (stood.lent (inode_in b k))
        ∙ lent_already b slots k (within k (or_left (k == k) (is_in ks k) (eq-eqb k k refl)))),
    stood_needed ks (λ n e. within n (or_right (k == n) _ e)),
  )

  -- it needs all those
  pub all_stood : AllByRecursion (IsNeeded b number walk) slots
  all_stood = stood_needed slots (λ k e. e)

  pub all_with : (other : ℕ) → IsBesides b number walk (Some other)
      → AllByRecursion (IsNeeded b number walk) (with_slot slots other)
  all_with other besides = elim (is_in slots other) as
      (λ t. AllByRecursion (IsNeeded b number walk) (cond t slots (slots ++ other ∷ []))) [
        | true ↦ all_stood
        | false ↦ all_more (IsNeeded b number walk) slots other all_stood besides.needed
      ]

  -- where it needs no other
  pub enough_alone : IsBesides b number walk None → AreEnough b number walk slots
  enough_alone besides = record {
    marked = λ inode e. stood.lent inode ∙ marked_has inode ∙ e;
    nodes = λ ends inode e. let node = besides.nodes ends inode e in absurd (cc node.1);
    spare = λ ends makes. absurd (cc (besides.spare ends makes));
  }

  with_it : (ks : List ℕ) (k : ℕ) → is_in (ks ++ k ∷ []) k ≡ true
  with_it [] k = or_left (k == k) false (eq-eqb k k refl)
  with_it (x ∷ ks) k = or_right (x == k) _ (with_it ks k)

  added : (ks : List ℕ) (k : ℕ) → is_in (with_slot ks k) k ≡ true
  added ks k = elim (is_in ks k) as (λ t. is_in ks k ≡ t → is_in (cond t ks (ks ++ k ∷ [])) k ≡ true)
      [ true ↦ λ e. e | false ↦ λ e. with_it ks k ] refl

  pub enough_with : (other : ℕ) → other < length b.inodes → IsBesides b number walk (Some other)
      → AreEnough b number walk (with_slot slots other)
  enough_with other within besides = record {
    marked = λ inode e. all.lent inode ∙ or_left (has_mark b.world inode number) _ (marked_has inode ∙ e);
    nodes = λ ends inode e.
        let node = besides.nodes ends inode e in
        all.lent inode ∙ or_right (has_mark b.world inode number) _
        (eq-eqb (inode_in b other) inode (ap (inode_in b) (same_Some other node.0 node.1) ∙ node.2));
    spare = λ ends makes. ap (is_in (with_slot slots other))
        (sym (same_Some other (spare_of b number) (besides.spare ends makes))) ∙ added slots other;
  }
    where
      all : Gathers b (with_slot slots other) (λ inode. has_mark b.world inode number || (inode_in b other == inode))
      all = gathers_slot b slots _ other within stood
