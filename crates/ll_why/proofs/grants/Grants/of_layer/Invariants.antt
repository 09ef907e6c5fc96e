use Rattle.std.proofs.Common.{take}
use Rattle.ll_why.specs.Grants.{AreGrants}
use Rattle.ll_why.proofs.grants.Grants.of_layer.Given as goal

-- so far
abbrev pub invariant-loop-inode : goal.invariant-loop-inode
invariant-loop-inode l = record {
  so_far : AreGrants l.layer (take l.inode-index l.inodes) l.fn.rights.0 l.grants;
}
