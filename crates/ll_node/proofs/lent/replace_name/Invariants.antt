use Rattle.std.proofs.Common.{◌≡◌}
use Rattle.ll_node.specs.Lent.{named_in}
use Rattle.ll_node.proofs.EachSlot.{changed}
use Rattle.ll_node.proofs.lent.replace_name.Given as goal

abbrev pub invariant-loop-held : goal.invariant-loop-held
invariant-loop-held l = l.lent ≡ changed (named_in l.directory l.name l.inode) l.held-index l.fn.lent
