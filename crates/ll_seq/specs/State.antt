-- What the tree is: directory entries, nodes and clients. own, after inode(7) and path_resolution(7)
use Rattle.std.specs.Prelude.{ℕ, Bool, List, [], length, map, filter, Option, ◌==◌, option_map}
use Rattle.std.specs.List.{list_any}
use Rattle.std.specs.Option.{option_map_or}
use Rattle.std.specs.declared.cmp.Ordering.{Ordering}
use Rattle.std.specs.Ordering.{nat_cmp, ordering_then}
use Rattle.std.specs.Cmp.Lexicographic.{slice_cmp}
use Rattle.ll_rights.specs.declared.kind.Kind.{Kind}
use Rattle.ll_rights.specs.declared.kind.Kind.TheVariants.{Dir}
use Rattle.ll_rights.specs.Map.{Map, empty, get, insert, entries}
use Rattle.ll_seq.specs.declared.client.ClientRecord.{ClientRecord}
use Rattle.ll_seq.specs.declared.client.Descriptor.{Descriptor}
use Rattle.ll_seq.specs.declared.dentries.Dentry.{Dentry}
use Rattle.ll_seq.specs.declared.node.Node.{Node}
use Rattle.ll_seq.specs.declared.rules.Rules.{Rules}

abbrev pub Name : Type 0
Name = List ℕ

-- sorted by directory, then by the name's bytes
abbrev pub dentry_cmp : Dentry → Dentry → Ordering
dentry_cmp a b = ordering_then (nat_cmp a.directory b.directory) (slice_cmp nat_cmp a.name b.name)

abbrev pub dentry : ℕ → Name → Dentry
dentry directory name = record { directory = directory; name = name }

-- entries: the inode of each name. next: the next inode number. room: how many nodes may be alive. Nodes, rules and
-- clients are declared in the code
pub record State : Type 0 where
  pub entries : Map dentry_cmp ℕ
  pub nodes : Map nat_cmp Node
  pub next : ℕ
  pub room : ℕ
  pub rules : Rules
  pub clients : Map nat_cmp ClientRecord

abbrev pub root : ℕ
root = 1

abbrev pub empty_node : Kind → Node
empty_node kind = record { kind = kind; bytes = [] }

abbrev pub new_client : ClientRecord
new_client = record { domain = []; rulesets = []; descriptors = empty }

-- a new tree: only the root
abbrev pub start : Rules → ℕ → State
start rules room = record {
  entries = empty;
  nodes = insert empty root (empty_node Dir);
  next = 2;
  room = room;
  rules = rules;
  clients = empty;
}

module _ (s : State) where
  abbrev pub kind_of : ℕ → Option Kind
  kind_of inode = option_map (λ (n : Node). n.kind) (get s.nodes inode)

  abbrev pub bytes_of : ℕ → List ℕ
  bytes_of inode = option_map_or (λ (n : Node). n.bytes) (get s.nodes inode) []

  abbrev pub child : ℕ → Name → Option ℕ
  child directory name = get s.entries (dentry directory name)

  -- the names in a directory, sorted by bytes
  abbrev pub names_in : ℕ → List Name
  names_in directory =
      map (λ (e : Dentry × ℕ). e.0.name) (filter (λ (e : Dentry × ℕ). e.0.directory == directory) (entries s.entries))

  abbrev pub name_count : ℕ → ℕ
  name_count inode = length (filter (λ (e : Dentry × ℕ). e.1 == inode) (entries s.entries))

  abbrev pub is_open : ℕ → Bool
  is_open inode = list_any (λ (c : ℕ × ClientRecord).
      list_any (λ (d : ℕ × Descriptor). d.1.inode == inode) (entries c.1.descriptors)) (entries s.clients)
