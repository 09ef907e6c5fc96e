-- The tree in the slots: the state that can be read from what they hold. own
use Rattle.std.specs.Prelude.{◌≡◌, ℕ, ◌+◌, ◌==◌, not, List, [], ◌∷◌, map, filter, length}
use Rattle.std.specs.declared.cmp.Ordering.{Ordering}
use Rattle.std.specs.List.{flat_map, range_with_len}
use Rattle.std.specs.Ordering.{nat_cmp}
use Rattle.ll_rights.specs.declared.limits.TheConstants.{TREE_CLIENTS}
use Rattle.ll_rights.specs.Map.{Map, empty, entries, insert}
use Rattle.ll_seq.specs.declared.client.ClientRecord.{ClientRecord}
use Rattle.ll_seq.specs.declared.dentries.Dentry.{Dentry}
use Rattle.ll_seq.specs.declared.node.Node.{Node}
use Rattle.ll_seq.specs.declared.rules.Rules.{Rules}
use Rattle.ll_seq.specs.State.{Name, State, dentry}
use Rattle.ll_node.specs.declared.held.Held.{Held}
use Rattle.ll_node.specs.Lent.{AreApart}
use Rattle.ll_laws.specs.World.{World, shown}
use Rattle.ll_journal.specs.Book.{Book, slot_of}

-- what each slot must hold, in their order
abbrev pub accounts_of : Book → List Held
accounts_of b = map (slot_of b) (range_with_len 0 (length b.inodes))

-- the map with these keys and values
abbrev pub map_of : {K X : Type 0} {R : K → K → Ordering} → List (K × X) → Map R X
map_of [] = empty
map_of (e ∷ es) = insert (map_of es) e.0 e.1

-- the slots that aren't vacant
abbrev pub taken : List Held → List Held
taken slots = filter (λ (held : Held). not (held.inode == 0)) slots

-- the node in a slot, with its inode
abbrev pub node_in : Held → ℕ × Node
node_in held = (held.inode, record { kind = held.node.kind; bytes = held.node.bytes })

-- the entries of the directory in a slot
abbrev pub entries_in : Held → List (Dentry × ℕ)
entries_in held = map (λ (e : Name × ℕ). (dentry held.inode e.0, e.1)) (entries held.node.names)

-- The state whose nodes and entries are those in the slots. Its rules, its room, the next inode and the clients aren't
-- in slots, and are given
abbrev pub state_in : Rules → ℕ → ℕ → Map nat_cmp ClientRecord → List Held → State
state_in rules room next clients slots = record {
  entries = map_of (flat_map entries_in (taken slots));
  nodes = map_of (map node_in (taken slots));
  next = next;
  room = room;
  rules = rules;
  clients = clients;
}

-- There is a slot for each node that may be alive, and one more for each client. No inode is in two slots. They hold
-- exactly the visible tree
pub record HoldTree (slots : List Held) (w : World) : Type 0 where
  pub size : length slots ≡ w.room + TREE_CLIENTS
  pub apart : AreApart slots
  pub state : state_in w.rules w.room (shown w).next (shown w).clients slots ≡ shown w
