-- What a layer grants on an inode by some path. own, after linux/landlock.h, "Filesystem flags"
use Rattle.std.specs.Prelude.{◌≡◌, ℕ, false, Some, IsTrue}
use Rattle.std.specs.Option.{option_map_or}
use Rattle.ll_rights.specs.Kind.{relevant}
use Rattle.ll_rights.specs.Access.{holds}
use Rattle.ll_path.specs.Path.{Path}
use Rattle.ll_rules.specs.Layer.{Layer}
use Rattle.ll_seq.specs.State.{State, kind_of}
use Rattle.ll_seq.specs.Tree.{named}
use Rattle.ll_seq.specs.Asked.{grants}

-- the right applies to the inode, and some path, of any length, leads to it and has the right granted
pub record InReach (s : State) (layer : Layer) (inode right : ℕ) : Type 0 where
  pub path : Path
  pub names : named s path ≡ Some inode
  pub relevant : IsTrue (option_map_or (λ kind. holds (relevant kind) right) (kind_of s inode) false)
  pub granted : IsTrue (grants s layer path right)

abbrev pub HasName : State → ℕ → Type 0
HasName s inode = (path : Path) × (named s path ≡ Some inode)
