use Rattle.std.specs.Prelude.{◌≤◌, length, Option, unwrap_or}
use Rattle.std.proofs.Common.{ap, subst}
use Rattle.ll_rights.specs.declared.limits.TheConstants.{DOMAIN_LAYERS}
use Rattle.ll_seq.specs.declared.client.ClientRecord.{ClientRecord}
use Rattle.ll_seq.specs.State.{new_client}
use Rattle.ll_learn.proofs.Gathered.{full_at_cut}
use Rattle.ll_learn.proofs.demand.has_room.Goals as goal

pub returns-else-len-lt-DOMAIN_LAYERS-clause-fault : goal.returns-else-len-lt-DOMAIN_LAYERS-clause-fault
returns-else-len-lt-DOMAIN_LAYERS-clause-fault c entries =
    full_at_cut c.args.tree.now c.args.client entries
    (subst (λ (r : ClientRecord). DOMAIN_LAYERS ≤ length r.domain)
    (ap (λ (o : Option ClientRecord). unwrap_or o new_client) c.in-Some.ensures)
    (subst (λ n. DOMAIN_LAYERS ≤ n) c.len.ensures.len c.if-len-lt-DOMAIN_LAYERS.false))
