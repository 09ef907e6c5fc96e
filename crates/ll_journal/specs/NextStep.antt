-- Which step of a client's walk comes next, and which slots it needs. own
use Rattle.std.specs.Prelude.{◌≡◌, ◌⊎◌, ℕ, ◌<◌, ◌≤◌, true, false, List, length, Option, Some, ⊤}
use Rattle.std.specs.List.{AllByRecursion}
use Rattle.ll_rights.specs.Map.{get}
use Rattle.ll_seq.specs.State.{root}
use Rattle.ll_seq.specs.declared.call.Call.{Call}
use Rattle.ll_node.specs.InodeTable.{AreDistinct}
use Rattle.ll_node.specs.declared.held.Held.{Held}
use Rattle.ll_laws.specs.Walk.{Walk, Leg, at_ends, is_blocked, turn}
use Rattle.ll_laws.specs.World.{shown}
use Rattle.ll_journal.specs.declared.next.Next.{Next}
use Rattle.ll_journal.specs.declared.next.Next.TheVariants as next
use Rattle.ll_journal.specs.declared.station.Station.TheVariants as station
use Rattle.ll_journal.specs.Book.{Book, has_mark, inode_in}
use Rattle.ll_journal.specs.Stations.{Names, station_on}
use Rattle.ll_journal.specs.Stations.{station_in}
use Rattle.ll_journal.specs.Steps.{IsInTurn, IsNext}
use Rattle.ll_journal.specs.WalkEnds.{AreEnough, IsNeeded, is_lent}

-- The client's walk isn't stale, and its leg in turn can't go on or each branch is at its end. These are exactly the
-- slots that its commit may need
pub record IsAtStop (b : Book) (number : ℕ) (slots : List ℕ) : Type 0 where
  pub walk : Walk
  pub leg : Leg
  pub is : get b.world.walks number ≡ Some walk
  pub fresh : walk.stale ≡ false
  pub in_turn : turn walk.at ≡ Some leg
  pub stops : (is_blocked (shown b.world) leg.here leg.ahead ≡ true) ⊎ (at_ends walk.call walk.at ≡ true)
  pub enough : AreEnough b number walk slots
  pub only : AllByRecursion (IsNeeded b number walk) slots

-- This step of the client's walk comes next, with these slots, or its leg in turn isn't in the slot's directory
abbrev pub ComesNext : Book → ℕ → ℕ → Next → Type 0
ComesNext b number slot next.Nothing = station_in b.world number ≡ station.Idle
ComesNext b number slot next.Elsewhere = ¬ IsInTurn b number slot
ComesNext b number slot (next.Restart slots) =
    (station_in b.world number ≡ station.Stale) × ((inode : ℕ) → is_lent b slots inode ≡ has_mark b.world inode number)
ComesNext b number slot (next.Enter to) = (station_in b.world number ≡ station.Above) × (inode_in b to ≡ root)
ComesNext b number slot (next.Descend on) =
    IsNext b number slot on.slot × (station_in b.world number ≡ station_on on.name.turn)
ComesNext b number slot next.Fork = station_in b.world number ≡ station.Fork
ComesNext b number slot (next.Commit slots) = IsInTurn b number slot × IsAtStop b number slots

-- the slots exist, each occurs once, and there are at most this many
pub record AreLendable (b : Book) (most : ℕ) (slots : List ℕ) : Type 0 where
  pub distinct : AreDistinct slots
  pub within : AllByRecursion (λ slot. slot < length b.inodes) slots
  pub few : length slots ≤ most

-- the slots that the step needs can be lent
abbrev pub CanBeLent : Book → Next → Type 0
CanBeLent b next.Nothing = ⊤
CanBeLent b next.Elsewhere = ⊤
CanBeLent b (next.Restart slots) = AreLendable b 3 slots
CanBeLent b (next.Enter to) = to < length b.inodes
CanBeLent b (next.Descend on) = on.slot < length b.inodes
CanBeLent b next.Fork = ⊤
CanBeLent b (next.Commit slots) = AreLendable b 4 slots

-- if the step is a descent by this call, the held directory has the reported inode for the reported name
abbrev pub IsNamed : Option Call → Held → Next → Type 0
IsNamed doing held (next.Descend on) = (call : Call) → doing ≡ Some call → Names call held on.name on.inode
IsNamed doing held other = ⊤
