-- What contracts see of the journal, and the account of a slot: what must be behind its lock. own
use Rattle.std.specs.Prelude.{◌≡◌, ℕ, zero, suc, ◌+◌, ◌-◌, Bool, false, ◌==◌, List, [], ◌∷◌, replicate, slice_index_or}
use Rattle.std.specs.Prelude.{length, Option, Some, None, if◌then◌else◌}
use Rattle.std.specs.List.{range_with_len}
use Rattle.std.specs.Option.{option_map_or}
use Rattle.ll_rights.specs.declared.limits.TheConstants.{TREE_CLIENTS}
use Rattle.ll_rights.specs.Map.{get}
use Rattle.ll_seq.specs.declared.client.ClientRecord.{ClientRecord}
use Rattle.ll_seq.specs.declared.rules.Rules.{Rules}
use Rattle.ll_seq.specs.State.{bytes_of, root}
use Rattle.ll_seq.specs.Tree.{kind_or_file}
use Rattle.ll_node.specs.Accounts.{names_map}
use Rattle.ll_node.specs.declared.held.Held.{Held}
use Rattle.ll_node.specs.Lent.{vacant}
use Rattle.ll_node.specs.InodeTable.{NotIn}
use Rattle.ll_laws.specs.Walk.{Walk, marks}
use Rattle.ll_laws.specs.World.{World, new_world, next_number, shown}

-- A client: its record, the slot reserved for the next node that it creates, and its walk if one is under way
pub record Seat : Type 0 where
  pub client : ClientRecord
  pub spare : ℕ
  pub walk : Option Walk

-- inodes: by slot, its inode, or 0 if vacant. free: the vacant slots that are nobody's spare. spares: by client number,
-- the vacant slot reserved for that client
pub record Book : Type 0 where
  pub world : World
  pub inodes : List ℕ
  pub free : List ℕ
  pub spares : List ℕ

-- There is a slot for each node that may be alive, and one more for each client. The root is in the first
abbrev pub new_book : Rules → ℕ → ℕ → Book
new_book rules room limit = record {
  world = new_world rules room limit;
  inodes = root ∷ replicate (room + TREE_CLIENTS - 1) 0;
  free = range_with_len 1 (room + TREE_CLIENTS - 1);
  spares = [];
}

-- ---- Accounts

-- the client's walk is in the directory
abbrev pub has_mark : World → ℕ → ℕ → Bool
has_mark w inode number = option_map_or (λ (walk : Walk). marks walk inode) (get w.walks number) false

-- the highest client number below this one whose walk is there
abbrev pub marked_below : World → ℕ → ℕ → Option ℕ
marked_below w inode zero = None
marked_below w inode (suc number) = if has_mark w inode number then Some number else marked_below w inode number

-- the client whose walk is in the directory
abbrev pub mark_of : World → ℕ → Option ℕ
mark_of w inode = marked_below w inode (next_number w)

-- what the slot of an inode holds: its content is that of the visible tree
abbrev pub held_of : World → ℕ → Held
held_of w inode = record {
  inode = inode;
  node = record {
    kind = kind_or_file (shown w) inode;
    names = names_map (shown w) inode;
    bytes = bytes_of (shown w) inode;
    mark = mark_of w inode;
  };
}

abbrev pub inode_in : Book → ℕ → ℕ
inode_in b k = slice_index_or b.inodes k 0

-- the account of a slot
abbrev pub slot_of : Book → ℕ → Held
slot_of b k = if inode_in b k == 0 then vacant else held_of b.world (inode_in b k)

-- what a step that is lent these slots leaves unchanged
pub record Spares (b b' : Book) (ks : List ℕ) : Type 0 where
  pub limit : b'.world.limit ≡ b.world.limit
  pub size : length b'.inodes ≡ length b.inodes
  pub slots : (j : ℕ) → NotIn j ks → slot_of b' j ≡ slot_of b j
