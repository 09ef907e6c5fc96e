use Rattle.std.proofs.Common.{take}
use Rattle.std.proofs.lemmas.List.{take_more}
use Rattle.ll_why.proofs.grants.Grants.of_layer.Goals as goal

pub loop-inode-preserved : goal.loop-inode-preserved
loop-inode-preserved c =
    let i = c.loop-inode.inode-index in
    let inodes = c.args.inodes.now in
    record {
      so_far = rw (take_more inodes i 0 c.loop-inode-test.true)
          (c.in_ok-grants.ensures (take i inodes) c.args.rights.0 c.loop-inode.invariant.so_far);
    }
