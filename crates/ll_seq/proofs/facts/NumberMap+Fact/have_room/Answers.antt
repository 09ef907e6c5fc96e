use Rattle.std.proofs.Common.{ℕ}
use Rattle.std.specs.List.{list_all}
use Rattle.ll_seq.specs.declared.client.Descriptor.{Descriptor}
use Rattle.ll_seq.specs.Facts.{has_room}
use Rattle.ll_seq.proofs.OrderedTables.{of_rows}
use Rattle.ll_seq.proofs.facts.NumberMap+Fact.have_room.Goals as goal

pub loop-row-init : goal.loop-row-init
loop-row-init c =
    of_rows (list_all (λ (d : ℕ × Descriptor). has_room c.args.self.now d.1.inode)) c.descriptors.inside.rows.items
    c.deref-row-items.result.now c.args.descriptors.now
    c.descriptors.view_is c.descriptors.invariant c.deref-row-items.ensures.value
