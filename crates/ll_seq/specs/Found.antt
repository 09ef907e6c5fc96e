-- What a walk finds for a call's paths, and when that is right. Cited by contracts between crates alone. own
use Rattle.std.specs.Prelude.{◌≡◌, ℕ, Bool, false, List, [], ◌∷◌, Option, Some, None}
use Rattle.std.specs.Prelude.{nat_lt, nat_le, option_map, option_and_then, slice_get}
use Rattle.std.specs.Borrow.{Bor}
use Rattle.std.specs.Option.{option_map_or}
use Rattle.std.specs.Ordering.{nat_cmp}
use Rattle.ll_rights.specs.declared.errno.Errno.{Errno}
use Rattle.ll_rights.specs.declared.limits.TheConstants.{DIRECTORY_ENTRIES, NODE_NAMES}
use Rattle.ll_rights.specs.Map.{Map, get, len}
use Rattle.ll_path.specs.Path.{Path, parent}
use Rattle.ll_path.specs.declared.target.Target.{Target}
use Rattle.ll_seq.specs.Call.{first_path, second_path}
use Rattle.ll_seq.specs.declared.call.Call.{Call}
use Rattle.ll_seq.specs.declared.facts.Fact.{Fact}
use Rattle.ll_seq.specs.Stages.{in_the_way, has_names, has_many_names, is_crowded}
use Rattle.ll_seq.specs.State.{State, root}
use Rattle.ll_seq.specs.Tree.{named, directory_of, kind_or_file}
use Rattle.ll_seq.specs.declared.found.Found.{Found}
use Rattle.ll_seq.specs.declared.found.Spot.{Spot}
use Rattle.ll_seq.specs.declared.found.There.{There}
use Rattle.ll_seq.specs.declared.targets.Targets.{Targets}
use Rattle.ll_seq.specs.declared.targets.Targets.TheVariants.{No, One, Two}

-- the path. None means the root
abbrev pub or_root : Option (Bor Path) → Path
or_root None = []
or_root (Some path) = path.now

abbrev pub words_of : Targets → List Target
words_of No = []
words_of (One target) = target.now ∷ []
words_of (Two old new) = old.now ∷ new.now ∷ []

-- what a name with this inode leads to
abbrev pub there_in : State → ℕ → There
there_in s inode = record {
  inode = inode;
  kind = kind_or_file s inode;
  has_names = has_names s inode;
  has_many_names = has_many_names s inode;
}

-- the directory of the path's last name, and what has that name there
pub record Stands (s : State) (path : Path) (spot : Spot) : Type 0 where
  pub directory : spot.directory ≡ directory_of s path
  pub crowded : spot.is_crowded ≡ is_crowded s (directory_of s path)
  pub there : spot.there ≡ option_map (there_in s) (named s path)

-- the first obstacle on the way to the path's last name; without one, where that name is
pub record IsSpot (s : State) (path : Path) (spot : Spot) : Type 0 where
  pub way : spot.way ≡ slice_get (in_the_way s (parent path) root) 0
  pub stands : spot.way ≡ None → Stands s path spot

-- what is found for the call is right in the tree
pub record AreFacts (s : State) (call : Call) (found : Found) : Type 0 where
  pub first : IsSpot s (first_path call) found.first
  pub second : IsSpot s (second_path call) found.second
  pub full : found.is_full ≡ nat_le s.room (len s.nodes)

-- ---- Computed from the counts of each node

abbrev pub there_by : ℕ → Fact → There
there_by inode fact = record {
  inode = inode;
  kind = fact.kind;
  has_names = nat_lt 0 fact.names;
  has_many_names = nat_le NODE_NAMES fact.links;
}

abbrev pub there_at : Map nat_cmp Fact → ℕ → Option There
there_at facts inode = option_map (there_by inode) (get facts inode)

abbrev pub crowded_at : Map nat_cmp Fact → ℕ → Bool
crowded_at facts inode = option_map_or (λ (fact : Fact). nat_le DIRECTORY_ENTRIES fact.names) (get facts inode) false

-- the spot with this obstacle; without one, with the last name in this directory, for this node
abbrev pub spot_by : Map nat_cmp Fact → Option Errno → ℕ → Option ℕ → Spot
spot_by facts way directory node = record {
  way = way;
  directory = directory;
  is_crowded = crowded_at facts directory;
  there = option_and_then (there_at facts) node;
}
