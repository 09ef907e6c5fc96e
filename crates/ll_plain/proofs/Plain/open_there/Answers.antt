use Rattle.std.proofs.Common.{ap, sym, subst, ◌∙◌}
use Rattle.ll_rights.specs.Map.{has}
use Rattle.ll_seq.specs.declared.client.Descriptor.{Descriptor}
use Rattle.ll_seq.specs.State.{State}
use Rattle.ll_seq.specs.Reach.{HasName}
use Rattle.ll_plain.specs.contracts.Plain.{the_view}
use Rattle.ll_plain.proofs.Tied.{named_there}
use Rattle.ll_plain.proofs.Plain.open_there.Goals as goal

pub take-requires-clause-there : goal.take-requires-clause-there
take-requires-clause-there c =
    ap (λ (d : Descriptor). has c.args.self.now.nodes d.inode) c.descriptor.ensures
    ∙ ap (λ (z : State). has z.nodes c.args.inode) (sym c.self.view_is)
    ∙ named_there (the_view c.self.inside) c.self.invariant.nodes c.args.inode
    (subst (λ z. HasName z c.args.inode) (sym c.self.view_is) c.requires.named)
