use Rattle.std.proofs.Common.{subst}
use Rattle.ll_seq.specs.State.{State}
use Rattle.ll_plain.specs.Tables.{IsTied}
use Rattle.ll_plain.proofs.Plain.status.Goals as goal

pub returns : goal.returns
returns c =
    let tied = subst (λ (z : State). IsTied z c.self.inside.facts) c.self.view_is c.self.invariant in
    c.status_of.ensures c.args.self.now tied.kept c.size.ensures (tied.nodes.named c.args.inode)
