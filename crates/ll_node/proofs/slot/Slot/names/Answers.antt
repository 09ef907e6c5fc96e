use Rattle.std.proofs.Common.{sym, ap, ◌∙◌}
use Rattle.ll_node.specs.Slot.{Slot}
use Rattle.ll_node.specs.Held.{names_of}
use Rattle.ll_node.proofs.SlotNames.{no_names}
use Rattle.ll_node.proofs.slot.Slot.names.Goals as goal

pub returns-in-Bytes : goal.returns-in-Bytes
returns-in-Bytes c = c.new.ensures
    ∙ no_names c.args.self.now.names (ap names_of (sym c.in-Bytes.is) ∙ ap (λ (slot : Slot). slot.names) c.self.view_is)
