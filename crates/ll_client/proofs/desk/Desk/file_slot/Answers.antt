use Rattle.std.proofs.Common.{ℕ, IfNone, subst}
use Rattle.ll_seq.specs.declared.client.Descriptor.{Descriptor}
use Rattle.ll_journal.specs.Book.{Book}
use Rattle.ll_journal.specs.Direct.{IsOpen}
use Rattle.ll_client.proofs.desk.Desk.file_slot.Goals as goal

pub returns-clause-none : goal.returns-clause-none
returns-clause-none g c =
    subst (λ (p : Book × ℕ). IfNone c.file_slot.result
    ((file : Descriptor) → IsOpen p.0.world p.1 c.args.number file → ⊥))
    (λ i. (c.self.view_is i, c.number.ensures i)) c.file_slot.ensures.none
