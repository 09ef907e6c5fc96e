use Rattle.std.proofs.Common.{sym, ap, ◌∙◌}
use Rattle.ll_rights.specs.Map.{len}
use Rattle.ll_node.specs.Slot.{NameMap}
use Rattle.ll_node.proofs.NameTable.{length-names_kept}
use Rattle.ll_node.proofs.directory.Directory.len.Goals as goal

pub returns : goal.returns
returns c = c.len.ensures.len ∙ sym (length-names_kept c.self.inside.rows c.self.invariant)
    ∙ ap (λ (names : NameMap). len names) c.self.view_is
