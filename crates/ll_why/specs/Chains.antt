-- The inodes of paths, from the root on. Cited by contracts between crates alone. own
use Rattle.std.specs.Prelude.{◌≡◌}
use Rattle.ll_path.specs.Path.{Path, parent}
use Rattle.ll_seq.specs.State.{State}
use Rattle.ll_seq.specs.Tree.{ancestors, named}
use Rattle.ll_why.specs.declared.chain.Chain.{Chain}
use Rattle.ll_why.specs.declared.chain.PathChains.{PathChains}

-- the inodes of the names so far, and the inode that they lead to
pub record IsChain (s : State) (names : Path) (chain : Chain) : Type 0 where
  pub inodes : chain.inodes.items ≡ ancestors s names
  pub end : chain.end ≡ named s names

-- the inodes of the path, and those of its directory
pub record AreChains (s : State) (path : Path) (chains : PathChains) : Type 0 where
  pub itself : chains.itself.items ≡ ancestors s path
  pub parent : chains.parent.items ≡ ancestors s (parent path)
