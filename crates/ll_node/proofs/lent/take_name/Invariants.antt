use Rattle.std.proofs.Common.{◌≡◌}
use Rattle.ll_node.specs.Lent.{unnamed_in}
use Rattle.ll_node.proofs.EachSlot.{changed}
use Rattle.ll_node.proofs.lent.take_name.Given as goal

abbrev pub invariant-loop-held : goal.invariant-loop-held
invariant-loop-held l = l.lent ≡ changed (unnamed_in l.directory l.name) l.held-index l.fn.lent
