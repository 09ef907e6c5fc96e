use Rattle.std.proofs.Common.{IfNone, subst}
use Rattle.ll_seq.specs.declared.client.Descriptor as descriptor
use Rattle.ll_journal.specs.Book.{Book}
use Rattle.ll_journal.specs.Direct.{IsOpen}
use Rattle.ll_walk.proofs.section.Section.file_slot.Goals as goal

pub returns-clause-none : goal.returns-clause-none
returns-clause-none g c =
    subst (λ (b : Book). IfNone c.file_slot-slot.result ((file : descriptor.Descriptor)
    → ¬ IsOpen b.world c.args.me.now.number c.args.number file)) c.deref-2.ensures c.file_slot-slot.ensures.none
