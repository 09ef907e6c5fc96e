use Rattle.std.proofs.Common.{Option, ap, sym, ◌∙◌}
use Rattle.std.specs.Prelude.{unwrap_or}
use Rattle.ll_rights.specs.Map.{get}
use Rattle.ll_rights.proofs.Maps.{get-empty}
use Rattle.ll_seq.specs.declared.client.ClientRecord.{ClientRecord}
use Rattle.ll_seq.specs.State.{State, new_client}
use Rattle.ll_plain.proofs.Plain.descriptor.Goals as goal

pub returns-in-None : goal.returns-in-None
returns-in-None c =
    sym (ap (λ (o : Option ClientRecord). get (unwrap_or o new_client).descriptors c.args.number)
    (ap (λ (z : State). get z.clients c.args.client) (sym c.self.view_is) ∙ sym c.in-None.ensures) ∙ get-empty _ _ _)
