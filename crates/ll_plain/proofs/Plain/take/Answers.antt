use Rattle.std.proofs.Common.{refl, ap, ◌∙◌}
use Rattle.ll_rights.specs.Map.{has, insert}
use Rattle.ll_seq.specs.declared.client.ClientRecord.{ClientRecord}
use Rattle.ll_seq.specs.State.{State}
use Rattle.ll_seq.specs.Step.{client_of}
use Rattle.ll_seq.proofs.LowestFree.{found_free}
use Rattle.ll_plain.specs.contracts.Plain.{the_view}
use Rattle.ll_plain.proofs.Clients.{got_client}
use Rattle.ll_plain.proofs.Tied.{tied_with}
use Rattle.ll_plain.proofs.Plain.take.Goals as goal

pub invariant_of-self-2 : goal.invariant_of-self-2
invariant_of-self-2 c =
    let before : State = the_view c.self.inside in
    let holder : ClientRecord = client_of c.args.self.now c.args.client in
    let there = got_client before c.args.self.now c.args.client c.self.view_is c.requires.caller in
    let opened = c.in-Ok.ensures.ok holder there in
    tied_with before c.open-2.new.self c.open.new.self
    (insert before.clients c.args.client
    (record holder { descriptors = insert holder.descriptors c.in-Ok.number c.args.file })) c.self.invariant.nodes
    opened.1
    (c.open-2.ensures before c.args.client holder c.in-Ok.number c.args.file c.self.invariant.kept there
    (found_free holder.descriptors c.in-Ok.number opened.0) refl
    (ap (λ (z : State). has z.nodes c.args.file.inode) c.self.view_is ∙ c.requires.there))
