use Rattle.std.proofs.Common.{sym, ap, ◌∙◌}
use Rattle.ll_node.specs.Slot.{Slot}
use Rattle.ll_node.specs.Held.{names_of}
use Rattle.ll_node.proofs.SlotNames.{none_under}
use Rattle.ll_node.proofs.slot.Slot.look_up.Goals as goal

pub returns-in-Bytes : goal.returns-in-Bytes
returns-in-Bytes c = none_under c.args.self.now.names c.args.name.now (ap names_of (sym c.in-Bytes.is)
    ∙ ap (λ (slot : Slot). slot.names) c.self.view_is)
