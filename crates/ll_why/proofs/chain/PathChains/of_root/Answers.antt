use Rattle.ll_why.proofs.chain.PathChains.of_root.Goals as goal

pub returns : goal.returns
returns c s = record {
  itself = (c.in_ok-itself.ensures s).inodes;
  parent = (c.in_ok-parent.ensures s).inodes;
}
