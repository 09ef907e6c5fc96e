-- The counts of each node, kept up to date as calls change the tree. Cited by contracts between crates alone. own
use Rattle.std.specs.Prelude.{◌≡◌, ℕ, ◌≤◌, Bool, true, ◌==◌, length, filter, Option, None, nat_lt, option_map}
use Rattle.std.specs.List.{list_all, sum_by}
use Rattle.std.specs.Option.{option_map_or}
use Rattle.std.specs.Ordering.{nat_cmp}
use Rattle.ll_rights.specs.declared.kind.Kind.{Kind}
use Rattle.ll_rights.specs.Map.{Map, get, entries}
use Rattle.ll_seq.specs.declared.client.ClientRecord.{ClientRecord}
use Rattle.ll_seq.specs.declared.client.Descriptor.{Descriptor}
use Rattle.ll_seq.specs.declared.facts.Fact.{Fact}
use Rattle.ll_seq.specs.declared.facts.TheConstants.{MOST_OPENS}
use Rattle.ll_seq.specs.State.{State, kind_of, names_in, name_count}

-- how many of these descriptors refer to the inode
abbrev pub opens_in : Map nat_cmp Descriptor → ℕ → ℕ
opens_in descriptors inode = length (filter (λ (d : ℕ × Descriptor). d.1.inode == inode) (entries descriptors))

-- how many descriptors of all clients refer to the inode
abbrev pub open_count : State → ℕ → ℕ
open_count s inode = sum_by (λ (c : ℕ × ClientRecord). opens_in c.1.descriptors inode) (entries s.clients)

-- the counts of a live node
abbrev pub fact_of : State → ℕ → Option Fact
fact_of s inode = option_map (λ (kind : Kind). record {
  kind = kind;
  names = length (names_in s inode);
  links = name_count s inode;
  opens = open_count s inode;
}) (kind_of s inode)

-- nothing in the tree refers to this inode number
pub record IsUnused (s : State) (inode : ℕ) : Type 0 where
  pub node : get s.nodes inode ≡ None
  pub names : length (names_in s inode) ≡ 0
  pub links : name_count s inode ≡ 0
  pub opens : open_count s inode ≡ 0

-- The facts are the tree's: the counts of each node, and nothing else. Nothing refers to a number that isn't given yet
pub record AreKept (s : State) (facts : Map nat_cmp Fact) : Type 0 where
  pub told : (inode : ℕ) → get facts inode ≡ fact_of s inode
  pub unused : (inode : ℕ) → s.next ≤ inode → IsUnused s inode

-- one more descriptor of the inode can be counted
abbrev pub has_room : Map nat_cmp Fact → ℕ → Bool
has_room facts inode = option_map_or (λ (f : Fact). nat_lt f.opens MOST_OPENS) (get facts inode) true

-- one more of each of these descriptors can be counted
abbrev pub have_room : Map nat_cmp Fact → Map nat_cmp Descriptor → Bool
have_room facts descriptors = list_all (λ (d : ℕ × Descriptor). has_room facts d.1.inode) (entries descriptors)
