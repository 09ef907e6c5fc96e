use Rattle.std.proofs.Common.{rules, ap, ◌∙◌}
use Rattle.std.specs.Prelude.{[], nat_lt, take, drop, refl}
use Rattle.ll_rights.specs.declared.limits.TheConstants.{DATA_BYTES}
use Rattle.ll_rights.specs.declared.errno.Errno.TheVariants.{EINVAL}
use Rattle.ll_seq.specs.declared.reply.Reply.TheVariants.{Bytes}
use Rattle.ll_seq.specs.declared.call.Call.TheVariants.{Read}
use Rattle.ll_seq.specs.State.{bytes_of}
use Rattle.ll_seq.specs.Step.{client_of}
use Rattle.ll_plain.proofs.Written.{file_is}
use Rattle.ll_plain.proofs.Records.{not_refused, no_denials}
use Rattle.ll_plain.proofs.StepParts.{does, starves, both_free}
use Rattle.ll_plain.proofs.Plain.read.Goals as goal

pub returns-in-Err-bytes : goal.returns-in-Err-bytes
returns-in-Err-bytes c = starves c.args.self.now c.args.client (Read c.args.number c.args.offset c.args.count)
    (both_free _ [] (both_free _ _ (not_refused (nat_lt DATA_BYTES c.args.count) EINVAL (search rules))
    c.in-Ok.ensures.free) refl) (no_denials c.args.self.now (client_of c.args.self.now c.args.client).domain) refl _
    refl refl

pub returns-in-Ok-bytes : goal.returns-in-Ok-bytes
returns-in-Ok-bytes c =
    does c.args.self.now c.args.client (Read c.args.number c.args.offset c.args.count)
    (both_free _ [] (both_free _ _ (not_refused (nat_lt DATA_BYTES c.args.count) EINVAL (search rules))
    c.in-Ok.ensures.free) refl) (no_denials c.args.self.now (client_of c.args.self.now c.args.client).domain) refl
    (Bytes c.in-Ok-bytes.«data») _
    (λ fresh. ap (λ b. (Bytes b, c.args.self.now)) (c.in-Ok-bytes.ensures
    ∙ ap (λ j. take c.args.count (drop c.args.offset (bytes_of c.args.self.now j)))
    (file_is (client_of c.args.self.now c.args.client) c.args.number c.in-Ok.file c.in-Ok.ensures.there)))
