use Rattle.std.proofs.Common.{ap, sym, ◌∙◌}
use Rattle.std.specs.Prelude.{[], is_none, refl}
use Rattle.ll_rights.specs.declared.errno.Errno.TheVariants.{EBADF}
use Rattle.ll_rights.specs.Errno.{refuse}
use Rattle.ll_rights.specs.Map.{remove}
use Rattle.ll_seq.specs.declared.reply.Reply.TheVariants.{Done}
use Rattle.ll_seq.specs.declared.call.Call.TheVariants.{Close}
use Rattle.ll_seq.specs.Effects.{let_go, with_client}
use Rattle.ll_seq.specs.Step.{client_of}
use Rattle.ll_plain.proofs.Written.{file_is}
use Rattle.ll_plain.proofs.Records.{no_denials}
use Rattle.ll_plain.proofs.StepParts.{steps_done, both_free}
use Rattle.ll_plain.proofs.Plain.close.Goals as goal

pub returns : goal.returns
returns c =
    steps_done c.args.self.now c.args.client (Close c.args.number)
    (both_free _ [] (ap (λ o. refuse (is_none o) EBADF) (sym c.descriptor.ensures ∙ c.in-Some.is)) refl)
    (no_denials c.args.self.now (client_of c.args.self.now c.args.client).domain) refl Done _
    (λ fresh. ap (λ z. (Done, z)) (c.free.ensures
    ∙ ap (let_go (with_client c.args.self.now c.args.client
    (record (client_of c.args.self.now c.args.client)
    { descriptors = remove (client_of c.args.self.now c.args.client).descriptors c.args.number })))
    (file_is (client_of c.args.self.now c.args.client) c.args.number c.in-Some.file (sym c.descriptor.ensures
    ∙ c.in-Some.is))))
