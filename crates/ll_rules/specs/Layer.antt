-- What a layer grants. landlock.rst, "Landlock rules" and "Layers of file path access rights"
use Rattle.std.specs.Prelude.{ℕ, Bool, List, unwrap_or, ◌||◌, not, ◌==◌}
use Rattle.std.specs.List.{list_any}
use Rattle.std.specs.Ordering.{nat_cmp}
use Rattle.ll_rights.specs.Map.{Map, get}
use Rattle.ll_rights.specs.Right.{refer}
use Rattle.ll_rights.specs.Access.{holds}

-- A ruleset, or the layer that enforcing it adds. handled: the rights that it handles. rules: the allowed rights by
-- inode. A domain is a list of layers, the oldest first
pub record Layer : Type 0 where
  pub handled : ℕ
  pub rules : Map nat_cmp ℕ

abbrev pub has_rule : Layer → ℕ → ℕ → Bool
has_rule layer right inode = holds (unwrap_or (get layer.rules inode) 0) right

-- the rights that it denies unless a rule allows them: those handled, and always refer. linux/landlock.h,
-- LANDLOCK_ACCESS_FS_REFER
abbrev pub restricts : Layer → ℕ → Bool
restricts layer right = holds layer.handled right || (right == refer)

-- whether the layer grants the right on a path with these inodes, from the root to its end
abbrev pub grants_on : Layer → List ℕ → ℕ → Bool
grants_on layer inodes right = not (restricts layer right) || list_any (has_rule layer right) inodes
