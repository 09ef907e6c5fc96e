-- What the journal stores in addition to the history, and how that agrees with the visible tree. No public contract
-- cites it. own
use Rattle.std.specs.Prelude.{◌≡◌, ℕ, zero, suc, ◌+◌, ◌≤◌, List, [], ◌∷◌, map, length, Option, None, option_map}
use Rattle.std.specs.Prelude.{slice_get}
use Rattle.std.specs.Option.{option_map_or}
use Rattle.std.specs.Ordering.{nat_cmp}
use Rattle.ll_rights.specs.declared.limits.TheConstants.{HISTORY_ENTRIES, TREE_CLIENTS}
use Rattle.ll_rights.specs.Map.{Map, empty, get, insert}
use Rattle.ll_node.specs.InodeTable.{IsTable}
use Rattle.ll_seq.specs.State.{State}
use Rattle.ll_journal.specs.declared.journal.Journal.TheInside.{Inside}
use Rattle.ll_laws.specs.Walk.{Walk}
use Rattle.ll_laws.specs.World.{World, shown}
use Rattle.ll_laws.specs.Sound.{IsSound}
use Rattle.ll_journal.specs.Book.{Seat, Book}

-- the walks under way; the first seat is that of the client with this number
abbrev pub walks_from : ℕ → List Seat → Map nat_cmp Walk
walks_from number [] = empty
walks_from number (seat ∷ seats) =
    let others = walks_from (number + 1) seats in
    option_map_or (λ (walk : Walk). insert others number walk) seat.walk others

-- the seat of the client with this number
abbrev pub seat_at : List Seat → ℕ → Option Seat
seat_at seats zero = None
seat_at seats (suc place) = slice_get seats place

abbrev pub world_of : Inside → World
world_of j = record {
  rules = j.rules;
  room = j.room;
  limit = j.history.limit;
  history = j.history.entries;
  walks = walks_from 1 j.seats.items;
  gate = j.gate;
}

-- the spare slots of all seats
abbrev pub spares_of : List Seat → List ℕ
spares_of seats = map (λ (seat : Seat). seat.spare) seats

abbrev pub book_of : Inside → Book
book_of j = record {
  world = world_of j;
  inodes = j.table.inodes;
  free = j.table.free;
  spares = spares_of j.seats.items;
}

-- each client of the tree has its seat, and nobody else has one
abbrev pub AreSeated : State → List Seat → Type 0
AreSeated s seats =
    (number : ℕ) → get s.clients number ≡ option_map (λ (seat : Seat). seat.client) (seat_at seats number)

-- The table of inodes is the visible tree's. Each entry creates at most one node
pub record IsKept (j : Inside) : Type 0 where
  pub sound : IsSound (world_of j)
  pub seated : AreSeated (shown (world_of j)) j.seats.items
  pub table : IsTable (shown (world_of j)) (spares_of j.seats.items) j.table
  pub crowd : length j.seats.items ≤ TREE_CLIENTS
  pub numbers : j.table.next ≤ length j.history.entries + 2
  pub small : j.history.limit ≤ HISTORY_ENTRIES
