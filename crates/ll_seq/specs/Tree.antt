-- Paths in a tree. Nothing here knows of layers. path_resolution(7)
use Rattle.std.specs.Prelude.{ℕ, List, [], ◌∷◌, Option, Some, unwrap_or, option_and_then}
use Rattle.std.specs.Option.{option_map_or}
use Rattle.ll_rights.specs.declared.kind.Kind.{Kind}
use Rattle.ll_rights.specs.declared.kind.Kind.TheVariants.{Reg}
use Rattle.ll_path.specs.Path.{Path, parent}
use Rattle.ll_seq.specs.State.{State, child, kind_of, root}

module _ (s : State) where
  -- the inode at the end of the path, following entries from the root
  abbrev pub end_from : Path → ℕ → Option ℕ
  end_from [] inode = Some inode
  end_from (name ∷ path) inode = option_and_then (end_from path) (child s inode name)

  abbrev pub named : Path → Option ℕ
  named path = end_from path root

  abbrev pub inode_of : Path → ℕ
  inode_of path = unwrap_or (named path) 0

  -- the inodes on the way along the path, as far as it exists
  abbrev pub chain_from : Path → ℕ → List ℕ
  chain_from [] inode = inode ∷ []
  chain_from (name ∷ path) inode = inode ∷ option_map_or (chain_from path) (child s inode name) []

  -- starting at the root. If the last name is missing, these are its parent's
  abbrev pub ancestors : Path → List ℕ
  ancestors path = chain_from path root

  -- the directory of the path's last name
  abbrev pub directory_of : Path → ℕ
  directory_of path = inode_of (parent path)

  -- used only for numbers that have a node
  abbrev pub kind_or_file : ℕ → Kind
  kind_or_file inode = unwrap_or (kind_of s inode) Reg

  abbrev pub kind_at : Path → Kind
  kind_at path = kind_or_file (inode_of path)
