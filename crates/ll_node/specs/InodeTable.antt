-- Which inode is in which slot, each node's counts, and the vacant slots; and how these agree with a tree. Cited by
-- contracts between crates alone. own
use Rattle.std.specs.Prelude.{◌≡◌, ◌≢◌, ℕ, ◌+◌, ◌≤◌, ◌==◌, List, [], ◌∷◌, ◌++◌, map, length, Some, slice_get}
use Rattle.std.specs.Prelude.{if◌then◌else◌, ⊤}
use Rattle.std.specs.List.{AllByRecursion}
use Rattle.std.specs.Ordering.{nat_cmp}
use Rattle.ll_rights.specs.declared.limits.TheConstants.{TREE_CLIENTS}
use Rattle.ll_rights.specs.Map.{Map, get, len, has}
use Rattle.ll_seq.specs.declared.facts.Fact.{Fact}
use Rattle.ll_seq.specs.Facts.{AreKept}
use Rattle.ll_seq.specs.State.{State}

-- facts: each node's counts. next: the inode of the next node. inodes: by slot, its inode, or 0 if vacant. places: the
-- slot of each inode. free: the vacant slots that are nobody's spare
pub record Table : Type 0 where
  pub facts : Map nat_cmp Fact
  pub next : ℕ
  pub inodes : List ℕ
  pub places : Map nat_cmp ℕ
  pub free : List ℕ

-- the slot isn't in the list
abbrev pub NotIn : ℕ → List ℕ → Type 0
NotIn j [] = ⊤
NotIn j (k ∷ ks) = (j ≢ k) × NotIn j ks

-- no slot is in the list twice
abbrev pub AreDistinct : List ℕ → Type 0
AreDistinct [] = ⊤
AreDistinct (k ∷ ks) = NotIn k ks × AreDistinct ks

-- the slot is vacant
abbrev pub IsVacant : List ℕ → ℕ → Type 0
IsVacant inodes slot = slice_get inodes slot ≡ Some 0

-- the slots' inodes after this inode's slot became vacant
abbrev pub without_inode : List ℕ → ℕ → List ℕ
without_inode inodes inode = map (λ i. if i == inode then 0 else i) inodes

-- places has the slot of each inode that is in one, and nothing else
pub record ArePlaced (inodes : List ℕ) (places : Map nat_cmp ℕ) : Type 0 where
  pub lies : (slot inode : ℕ) → slice_get inodes slot ≡ Some inode → inode ≢ 0 → get places inode ≡ Some slot
  pub there : (inode slot : ℕ) → get places inode ≡ Some slot → (slice_get inodes slot ≡ Some inode) × (inode ≢ 0)

-- the table is the tree's, and each client has one of these slots as its spare
pub record IsTable (s : State) (kept : List ℕ) (t : Table) : Type 0 where
  pub facts : AreKept s t.facts
  pub next : t.next ≡ s.next
  pub placed : ArePlaced t.inodes t.places
  pub living : (inode : ℕ) → has t.places inode ≡ has s.nodes inode
  pub slots : length t.inodes ≡ s.room + TREE_CLIENTS
  pub free : AllByRecursion (IsVacant t.inodes) t.free
  pub spares : AllByRecursion (IsVacant t.inodes) kept
  pub distinct : AreDistinct (t.free ++ kept)
  -- each live node, each client and each free slot takes one slot
  pub count : length t.free + length kept + len s.nodes ≡ s.room + TREE_CLIENTS
  pub few : len s.nodes ≤ s.room
