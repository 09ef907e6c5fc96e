use Rattle.std.proofs.Common.{sym, ap, ◌∙◌}
use Rattle.ll_rights.specs.Map.{get}
use Rattle.ll_node.specs.Slot.{NameMap}
use Rattle.ll_node.proofs.NameTable.{get-names_kept}
use Rattle.ll_node.proofs.directory.Directory.get.Goals as goal

pub returns : goal.returns
returns c =
    c.copied.ensures ∙ c.get.ensures.value
    ∙ sym (get-names_kept c.self.inside.rows c.args.name.now c.self.invariant)
    ∙ ap (λ (names : NameMap). get names c.args.name.now) c.self.view_is
