-- A walk: a call on its way down the tree, and the directories that it has marked. own, after path_resolution(7)
use Rattle.std.specs.Prelude.{ℕ, Bool, true, false, not, ◌&&◌, ◌||◌, ◌==◌, List, [], ◌∷◌, ◌++◌, map, filter, length}
use Rattle.std.specs.Prelude.{drop, Option, Some, None, is_none, option_map, option_and_then, if◌then◌else◌}
use Rattle.std.specs.List.{list_any}
use Rattle.ll_rights.specs.Right.{all_rights}
use Rattle.ll_rights.specs.Kind.{is_dir}
use Rattle.ll_path.specs.Path.{Path, parent, common, is_root}
use Rattle.ll_rules.specs.Layer.{Layer, restricts, has_rule}
use Rattle.ll_seq.specs.declared.call.Call.{Call}
use Rattle.ll_seq.specs.Call.{targets, first_path, second_path}
use Rattle.ll_seq.specs.State.{Name, State, child, root}
use Rattle.ll_seq.specs.Tree.{kind_or_file}

abbrev pub is_in : List ℕ → ℕ → Bool
is_in xs x = list_any (λ y. y == x) xs

-- ---- The way of a call. Each branch ends at the parent of one of its paths

abbrev pub has_two_paths : Call → Bool
has_two_paths call = length (targets call) == 2

-- The names before the fork, which both branches begin with. With one path these are all names
abbrev pub trunk_path : Call → Path
trunk_path call = common (parent (first_path call)) (parent (second_path call))

-- ---- Masks, which are carried down: the rights that each layer grants where the walk is

-- rights, in increasing order
abbrev pub Mask : Type 0
Mask = List ℕ

abbrev pub rights_where : (ℕ → Bool) → Mask
rights_where test = filter test all_rights

-- each layer's mask one directory further down, where its rule may add rights
abbrev pub masks_below : List Layer → List Mask → ℕ → List Mask
masks_below [] masks inode = []
masks_below (layer ∷ layers) [] inode = []
masks_below (layer ∷ layers) (mask ∷ masks) inode =
    rights_where (λ right. is_in mask right || has_rule layer right inode) ∷ masks_below layers masks inode

-- ---- Legs

-- A branch and how far it has come. walked: the names behind. ahead: the names left. chain: the inodes from the root to
-- here, the directory where it is. masks: one for each layer, the oldest first
pub record Leg : Type 0 where
  pub walked : Path
  pub ahead : Path
  pub chain : List ℕ
  pub here : ℕ
  pub masks : List Mask

-- A leg at the root, with these names ahead. Above the root, a layer grants the rights that it doesn't restrict
abbrev pub first_leg : List Layer → Path → Leg
first_leg domain way = record {
  walked = [];
  ahead = way;
  chain = root ∷ [];
  here = root;
  masks = masks_below domain (map (λ layer. rights_where (λ right. not (restricts layer right))) domain) root;
}

-- the leg after it entered the directory with the next name
abbrev pub leg_below : List Layer → Leg → Name → Path → ℕ → Leg
leg_below domain leg name rest inode = record {
  walked = leg.walked ++ name ∷ [];
  ahead = rest;
  chain = leg.chain ++ inode ∷ [];
  here = inode;
  masks = masks_below domain leg.masks inode;
}

-- the inode of the name in the directory, if that is a directory
abbrev pub directory_under : State → ℕ → Name → Option ℕ
directory_under s directory name =
    option_and_then (λ inode. if is_dir (kind_or_file s inode) then Some inode else None) (child s directory name)

-- the leg one directory further, with these names ahead
abbrev pub further_by : State → List Layer → Leg → Path → Option Leg
further_by s domain leg [] = None
further_by s domain leg (name ∷ rest) = option_map (leg_below domain leg name rest) (directory_under s leg.here name)

-- the leg one directory further. None if no name is left, or the next one leads to no directory
abbrev pub further : State → List Layer → Leg → Option Leg
further s domain leg = further_by s domain leg leg.ahead

-- a name is left, and it leads to no directory
abbrev pub is_blocked : State → ℕ → Path → Bool
is_blocked s here [] = false
is_blocked s here (name ∷ rest) = is_none (directory_under s here name)

-- ---- Where a walk is

-- Above the root; or on its trunk, the part that two paths share (or the only path); or past the fork. Past the fork it
-- is still in the shared directory too, and has a leg for each path
pub data Position : Type 0 where
  Above : Position
  Down : (trunk : Leg) → Position
  Split : (trunk old new : Leg) → Position

abbrev pub legs : Position → List Leg
legs Above = []
legs (Down trunk) = trunk ∷ []
legs (Split trunk old new) = trunk ∷ old ∷ new ∷ []

-- the leg in turn: the old path's until its end, then the new path's
abbrev pub turn : Position → Option Leg
turn Above = None
turn (Down trunk) = Some trunk
turn (Split trunk old new) = Some (if is_root old.ahead then new else old)

-- the position with another leg in place of the one in turn
abbrev pub with_turn : Position → Leg → Position
with_turn Above leg = Above
with_turn (Down trunk) leg = Down leg
with_turn (Split trunk old new) leg = if is_root old.ahead then Split trunk old leg else Split trunk leg new

-- each branch is at its end
abbrev pub at_ends : Call → Position → Bool
at_ends call Above = false
at_ends call (Down trunk) = not (has_two_paths call) && is_root trunk.ahead
at_ends call (Split trunk old new) = is_root old.ahead && is_root new.ahead

-- the leg with the rest of the way to this path's parent ahead
abbrev pub toward : Leg → Path → Leg
toward leg path = record leg { ahead = drop (length leg.walked) (parent path) }

-- the position past the fork, if the walk is at it: there are two paths, and no shared name is left
abbrev pub forked : Call → Position → Option Position
forked call (Down trunk) =
    if has_two_paths call && is_root trunk.ahead
    then Some (Split trunk (toward trunk (first_path call)) (toward trunk (second_path call)))
    else None
forked call at = None

-- starts: how often the walk began at the top. stale: a directory on its way was moved
pub record Walk : Type 0 where
  pub call : Call
  pub starts : ℕ
  pub stale : Bool
  pub at : Position

-- the walk is in the directory, which therefore has its mark
abbrev pub marks : Walk → ℕ → Bool
marks walk inode = list_any (λ (leg : Leg). leg.here == inode) (legs walk.at)

-- the directory is on the walk's way from the root
abbrev pub passes : Walk → ℕ → Bool
passes walk inode = list_any (λ (leg : Leg). is_in leg.chain inode) (legs walk.at)

abbrev pub is_above : Position → Bool
is_above Above = true
is_above at = false
