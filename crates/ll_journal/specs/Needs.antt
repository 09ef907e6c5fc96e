-- How the slots that a step needs are gathered. No public contract cites it. own
use Rattle.std.specs.Prelude.{◌≡◌, ℕ, true, List, [], ◌∷◌, ◌++◌, Option, Some, slice_index_or, if◌then◌else◌, IfSome}
use Rattle.std.specs.Option.{option_map_or}
use Rattle.std.specs.Ordering.{nat_cmp}
use Rattle.ll_rights.specs.Map.{Map, get}
use Rattle.ll_seq.specs.Near.{nodes_of, may_make}
use Rattle.ll_seq.specs.declared.found.Found.{Found}
use Rattle.ll_seq.specs.declared.call.Call.{Call}
use Rattle.ll_laws.specs.Walk.{Walk, Leg, at_ends, is_in, legs}
use Rattle.ll_laws.specs.World.{shown}
use Rattle.ll_journal.specs.Book.{Seat, Book, inode_in}
use Rattle.ll_journal.specs.WalkEnds.{IsNeeded, nodes_at_end, would_make, spare_of}

-- with this slot too, once
abbrev pub with_slot : List ℕ → ℕ → List ℕ
with_slot slots slot = if is_in slots slot then slots else slots ++ slot ∷ []

-- with the inode's slot too
abbrev pub with_slot_of : Map nat_cmp ℕ → List ℕ → ℕ → List ℕ
with_slot_of places slots inode = option_map_or (with_slot slots) (get places inode) slots

-- with the slots of the directories where these legs are
abbrev pub with_slots_of : Map nat_cmp ℕ → List ℕ → List Leg → List ℕ
with_slots_of places slots [] = slots
with_slots_of places slots (leg ∷ more) = with_slots_of places (with_slot_of places slots leg.here) more

-- the slots of the directories where the seat's walk is
abbrev pub slots_in : Map nat_cmp ℕ → Seat → List ℕ
slots_in places seat = option_map_or (λ (walk : Walk). with_slots_of places [] (legs walk.at)) seat.walk []

-- A slot needed in addition to the directories': the spare one if the call may create a node, else that of the node
-- which it may change or report on
abbrev pub slot_besides : Map nat_cmp ℕ → ℕ → Call → Found → Option ℕ
slot_besides places spare call found =
    if may_make call found then Some spare else get places (slice_index_or (nodes_of call found) 0 0)

-- the slot, if any, that the client's walk needs in addition to the directories'
pub record IsBesides (b : Book) (number : ℕ) (walk : Walk) (o : Option ℕ) : Type 0 where
  pub needed : IfSome o (IsNeeded b number walk)
  pub nodes :
      at_ends walk.call walk.at ≡ true → (inode : ℕ) → is_in (nodes_at_end (shown b.world) walk.call) inode ≡ true
      → (slot : ℕ) × (o ≡ Some slot) × (inode_in b slot ≡ inode)
  pub spare : at_ends walk.call walk.at ≡ true → would_make (shown b.world) walk.call ≡ true
      → o ≡ Some (spare_of b number)
