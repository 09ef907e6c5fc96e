use Rattle.std.proofs.Common.{◌≡◌}
use Rattle.ll_node.specs.Lent.{emptied_in}
use Rattle.ll_node.proofs.EachSlot.{changed}
use Rattle.ll_node.proofs.lent.clear.Given as goal

abbrev pub invariant-loop-held : goal.invariant-loop-held
invariant-loop-held l = l.lent ≡ changed (emptied_in l.inode) l.held-index l.fn.lent
