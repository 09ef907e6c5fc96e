use Rattle.std.proofs.Common.{◌≡◌, ℕ, ◌<◌, ◌≤◌, take}
use Rattle.std.specs.Prelude.{◌&&◌, not}
use Rattle.ll_rights.specs.Access.{holds}
use Rattle.ll_rules.specs.Layer.{grants_on}
use Rattle.ll_why.proofs.grants.lacked.Given as goal

-- so far
abbrev pub invariant-loop-inode : goal.invariant-loop-inode
invariant-loop-inode l = record {
  fewer : l.missing.0 ≤ l.fn.rights.0;
  rights : (right : ℕ) → right < 15
      → holds l.missing.0 right
      ≡ (holds l.fn.rights.0 right && not (grants_on l.layer (take l.inode-index l.inodes) right));
}
