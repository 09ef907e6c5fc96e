-- A client's change: what is given for it, and what it results in. Cited by contracts between crates alone. own
use Rattle.std.specs.Prelude.{◌≡◌, ◌⊎◌, ℕ, ◌+◌, ◌<◌, ◌≤◌, ◌^◌, ◌-◌, true, ◌==◌, List, [], ◌∷◌, ◌++◌, Option}
use Rattle.std.specs.Prelude.{Some, None, slice_get, slice_set, slice_index_or, length, if◌then◌else◌}
use Rattle.std.specs.List.{AllByRecursion, list_any}
use Rattle.ll_rights.specs.declared.limits.TheConstants.{TREE_CLIENTS}
use Rattle.ll_rights.specs.Map.{get, has}
use Rattle.ll_seq.specs.declared.client.ClientRecord.{ClientRecord}
use Rattle.ll_seq.specs.declared.reply.Entry.{Entry}
use Rattle.ll_seq.specs.declared.rules.Rules.{Rules}
use Rattle.ll_seq.specs.State.{State, kind_of, start}
use Rattle.ll_seq.specs.History.{IsLegal, state_after}
use Rattle.ll_seq.specs.declared.changes.Change.{Change}
use Rattle.ll_seq.specs.Effect.{Fits, after}
use Rattle.ll_seq.specs.Near.{changed_inodes, makes}
use Rattle.ll_node.specs.declared.held.Held.{Held}
use Rattle.ll_node.specs.InodeTable.{Table, IsTable, AreDistinct, NotIn, without_inode}
use Rattle.ll_node.specs.Accounts.{account, accounts}

-- some legal history leads to this state
pub record IsReached (s : State) : Type 0 where
  pub rules : Rules
  pub room : ℕ
  pub entries : List Entry
  pub legal : IsLegal (start rules room) entries
  pub is : s ≡ state_after (start rules room) entries

-- Where a client makes a change: the tree's state, the walks' marks, all clients' spare slots, and which client it is
-- (its number, and the index of its spare slot)
pub record Scene : Type 0 where
  pub state : State
  pub marks : ℕ → Option ℕ
  pub spares : List ℕ
  pub number : ℕ
  pub place : ℕ

-- What the change works on: the client's record and spare slot, the table of inodes, the lent slots and what they hold
pub record InHand : Type 0 where
  pub client : ClientRecord
  pub spare : ℕ
  pub table : Table
  pub slots : List ℕ
  pub lent : List Held

abbrev pub in_hand : ClientRecord → ℕ → Table → List ℕ → List Held → InHand
in_hand client spare table slots lent =
    record { client = client; spare = spare; table = table; slots = slots; lent = lent }

-- what is in hand agrees with the tree
pub record IsGiven (scene : Scene) (hand : InHand) : Type 0 where
  pub reached : IsReached scene.state
  pub counted : IsTable scene.state scene.spares hand.table
  pub kept : slice_get scene.spares scene.place ≡ Some hand.spare
  pub crowd : length scene.spares ≤ TREE_CLIENTS
  pub numbers : hand.table.next < 2 ^ 64 - 1
  pub client : get scene.state.clients scene.number ≡ Some hand.client
  pub apart : AreDistinct hand.slots
  pub told : hand.lent ≡ accounts scene.state scene.marks hand.table.inodes hand.slots
  pub unmarked : scene.marks scene.state.next ≡ None

-- the lent slots include those of the nodes that the change touches, and the spare if it creates a node
pub record Covers (hand : InHand) (change : Change) : Type 0 where
  pub touched :
      AllByRecursion (λ i. list_any (λ k. slice_index_or hand.table.inodes k 0 == i) hand.slots ≡ true)
      (changed_inodes change)
  pub new : makes change ≡ true → list_any (λ k. k == hand.spare) hand.slots ≡ true

-- a node was created: it is in the client's old spare slot, and the last free slot is the new spare
pub record TakesFree (later : State) (spare : ℕ) (table : Table) (new : InHand) : Type 0 where
  pub made : has later.nodes table.next ≡ true
  pub free : table.free ≡ new.table.free ++ new.spare ∷ []
  pub inodes : new.table.inodes ≡ slice_set table.inodes spare table.next

-- a node was removed: its slot, one of those lent, is now the last free slot
pub record GivesBack (scene : Scene) (later : State) (hand : InHand) (table : Table) : Type 0 where
  pub slot : ℕ
  pub lent : list_any (λ k. k == slot) hand.slots ≡ true
  pub there : has scene.state.nodes (slice_index_or hand.table.inodes slot 0) ≡ true
  pub gone : kind_of later (slice_index_or hand.table.inodes slot 0) ≡ None
  pub inodes : table.inodes ≡ without_inode hand.table.inodes (slice_index_or hand.table.inodes slot 0)
  pub free : table.free ≡ hand.table.free ++ slot ∷ []

-- no slot was taken and none was freed
pub record KeepsSlots (old new : Table) : Type 0 where
  pub inodes : new.inodes ≡ old.inodes
  pub free : new.free ≡ old.free

-- the table's slots after a change. The client's spare slot changes only if a node was created
abbrev pub LeavesTable : Scene → State → InHand → InHand → Type 0
LeavesTable scene later old new =
    ((slice_get scene.spares scene.place ≡ Some new.spare) × KeepsSlots old.table new.table)
    ⊎ TakesFree later (slice_index_or scene.spares scene.place 0) old.table new
    ⊎ ((slice_get scene.spares scene.place ≡ Some new.spare) × GivesBack scene later old new.table)

-- what is in hand afterwards agrees with the tree after the change
pub record IsMade (scene : Scene) (later : State) (old new : InHand) : Type 0 where
  pub counted : IsTable later (slice_set scene.spares scene.place new.spare) new.table
  pub next : new.table.next ≤ old.table.next + 1
  pub clients :
      (q : ℕ) → get later.clients q ≡ (if q == scene.number then Some new.client else get scene.state.clients q)
  pub told : new.lent ≡ accounts later scene.marks new.table.inodes old.slots
  pub others :
      (k : ℕ) → NotIn k old.slots
      → account later scene.marks new.table.inodes k ≡ account scene.state scene.marks old.table.inodes k
  pub freed : LeavesTable scene later old new

-- the change does so in each scene that fits what is in hand
abbrev pub Enacts : Change → InHand → InHand → Type 0
Enacts change old new =
    (scene : Scene) → IsGiven scene old → Fits scene.state old.client change → Covers old change
    → IsMade scene (after scene.state scene.number old.client change) old new

-- there is a scene where the change can be made
pub record MayEnact (change : Change) (hand : InHand) : Type 0 where
  pub scene : Scene
  pub given : IsGiven scene hand
  pub fits : Fits scene.state hand.client change
  pub covers : Covers hand change
