-- The account of a slot: what must be behind its lock. Cited by contracts between crates alone. own
use Rattle.std.specs.Prelude.{ℕ, ◌==◌, List, [], ◌∷◌, map, filter, Option, slice_index_or, if◌then◌else◌}
use Rattle.ll_rights.specs.Map.{empty, entries, insert}
use Rattle.ll_node.specs.Slot.{NameMap}
use Rattle.ll_seq.specs.declared.dentries.Dentry.{Dentry}
use Rattle.ll_seq.specs.State.{Name, State, bytes_of}
use Rattle.ll_seq.specs.Tree.{kind_or_file}
use Rattle.ll_node.specs.declared.held.Held.{Held}
use Rattle.ll_node.specs.Lent.{vacant}

-- the map with these names and inodes
abbrev pub map_of : List (Name × ℕ) → NameMap
map_of [] = empty
map_of (e ∷ es) = insert (map_of es) e.0 e.1

-- the names in the directory, each with its inode
abbrev pub names_map : State → ℕ → NameMap
names_map s directory =
    map_of (map (λ (e : Dentry × ℕ). (e.0.name, e.1))
    (filter (λ (e : Dentry × ℕ). e.0.directory == directory) (entries s.entries)))

-- what the slot must hold, given the tree, the walk's mark on each inode, and the inode in each slot
abbrev pub account : State → (ℕ → Option ℕ) → List ℕ → ℕ → Held
account s marks inodes k =
    if slice_index_or inodes k 0 == 0 then vacant
    else record {
      inode = slice_index_or inodes k 0;
      node = record {
        kind = kind_or_file s (slice_index_or inodes k 0);
        names = names_map s (slice_index_or inodes k 0);
        bytes = bytes_of s (slice_index_or inodes k 0);
        mark = marks (slice_index_or inodes k 0);
      };
    }

abbrev pub accounts : State → (ℕ → Option ℕ) → List ℕ → List ℕ → List Held
accounts s marks inodes slots = map (account s marks inodes) slots
