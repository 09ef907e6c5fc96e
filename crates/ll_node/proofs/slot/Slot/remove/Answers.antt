use Rattle.std.proofs.Common.{sym, ap, ◌∙◌}
use Rattle.ll_node.specs.Slot.{Slot}
use Rattle.ll_node.specs.Held.{names_of}
use Rattle.ll_node.proofs.SlotNames.{none_under, missing_is}
use Rattle.ll_node.proofs.slot.Slot.remove.Goals as goal

pub returns-in-Bytes-clause-refused : goal.returns-in-Bytes-clause-refused
returns-in-Bytes-clause-refused c =
    missing_is c.args.self.now.names c.args.name.now
    (none_under c.args.self.now.names c.args.name.now (ap names_of (sym c.in-Bytes.is)
    ∙ ap (λ (slot : Slot). slot.names) c.self.view_is))
