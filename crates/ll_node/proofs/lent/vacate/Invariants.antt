use Rattle.std.proofs.Common.{◌≡◌}
use Rattle.ll_node.specs.Lent.{vacated}
use Rattle.ll_node.proofs.EachSlot.{changed}
use Rattle.ll_node.proofs.lent.vacate.Given as goal

abbrev pub invariant-loop-held : goal.invariant-loop-held
invariant-loop-held l = l.lent ≡ changed (vacated l.inode) l.held-index l.fn.lent
