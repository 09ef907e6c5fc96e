use Rattle.std.proofs.Common.{◌≡◌}
use Rattle.ll_node.specs.Lent.{unmarked}
use Rattle.ll_node.proofs.EachSlot.{changed}
use Rattle.ll_node.proofs.lent.unmark.Given as goal

abbrev pub invariant-loop-held : goal.invariant-loop-held
invariant-loop-held l = l.lent ≡ changed (unmarked l.client) l.held-index l.fn.lent
