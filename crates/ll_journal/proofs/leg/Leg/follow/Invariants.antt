use Rattle.std.proofs.Common.{◌≡◌, take, vec_capacity}
use Rattle.ll_journal.proofs.leg.Leg.follow.Given as goal

abbrev pub invariant-loop-inode : goal.invariant-loop-inode
invariant-loop-inode l = record {
  items : l.self.chain.items ≡ take l.inode-index l.other.chain.items;
  capacity : vec_capacity l.self.chain ≡ vec_capacity l.fn.self.chain;
}
