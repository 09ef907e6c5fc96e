use Rattle.std.proofs.Common.{ap, ◌∙◌}
use Rattle.ll_rights.specs.Map.{len}
use Rattle.ll_node.specs.InodeTable.{Table}
use Rattle.ll_node.proofs.LivingNodes.{facts_len}
use Rattle.ll_node.proofs.table.Inodes.living.Goals as goal

pub returns : goal.returns
returns c s spares table =
    c.len.ensures ∙ ap (λ (t : Table). len t.facts) c.self.view_is ∙ facts_len s c.args.self.now.facts table.facts
