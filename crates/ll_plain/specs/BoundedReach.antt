-- Reach along paths of limited length, for the helpers of the plain tree alone: no public contract cites this file.
use Rattle.std.specs.Prelude.{◌≡◌, ℕ, ◌≤◌, Bool, Option, Some, None, length, IsTrue, ◌↔◌}
use Rattle.std.specs.List.{list_any}
use Rattle.ll_rights.specs.declared.access.Access.{Access}
use Rattle.ll_rights.specs.Access.{holds}
use Rattle.ll_path.specs.Path.{Path}
use Rattle.ll_rules.specs.Layer.{Layer, has_rule}
use Rattle.ll_seq.specs.State.{State}
use Rattle.ll_seq.specs.Tree.{named, ancestors}

-- a rule on some inode of the path allows the right
abbrev pub is_ruled : State → Layer → Path → ℕ → Bool
is_ruled s layer path right = list_any (has_rule layer right) (ancestors s path)

-- the path has at most this many names, and leads to the inode
abbrev pub Leads : State → ℕ → ℕ → Path → Type 0
Leads s steps inode path = (named s path ≡ Some inode) × (length path ≤ steps)

-- what is found on the paths of one sort: None if there is no such path, else the rights that rules on any of them
-- allow
abbrev pub Found : State → Layer → (Path → Type 0) → Option Access → Type 0
Found s layer Sort None = (path : Path) → Sort path → ⊥
Found s layer Sort (Some set) = ((path : Path) × Sort path)
    × ((right : ℕ) → IsTrue (holds set.0 right) ↔ ((path : Path) × Sort path × IsTrue (is_ruled s layer path right)))
