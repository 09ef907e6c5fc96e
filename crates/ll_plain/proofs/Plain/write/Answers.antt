use Rattle.std.proofs.Common.{◌+◌, ap, sym, ◌∙◌}
use Rattle.std.specs.Prelude.{[], length, slice_get, true, false, refl}
use Rattle.ll_rights.specs.declared.errno.Errno.TheVariants.{EFBIG}
use Rattle.ll_seq.specs.declared.reply.Reply.TheVariants.{Wrote}
use Rattle.ll_seq.specs.declared.call.Call.TheVariants.{Write}
use Rattle.ll_seq.specs.Stages.{is_too_long}
use Rattle.ll_seq.specs.Effects.{inode_at}
use Rattle.ll_seq.specs.Step.{client_of}
use Rattle.ll_plain.proofs.Written.{file_is, nothing_too_long, too_long_if, writes_nothing, writes_some}
use Rattle.ll_plain.proofs.Records.{no_denials}
use Rattle.ll_plain.proofs.StepParts.{refused_after, does, starves, both_free}
use Rattle.ll_plain.proofs.Plain.write.Goals as goal

pub returns-then-is_empty : goal.returns-then-is_empty
returns-then-is_empty c =
    does c.args.self.now c.args.client (Write c.args.number c.args.offset c.args.bytes.now)
    (both_free _ [] c.in-Ok.ensures.free refl)
    (no_denials c.args.self.now (client_of c.args.self.now c.args.client).domain)
    (nothing_too_long (length c.args.bytes.now) _ (sym c.is_empty.ensures ∙ c.if-is_empty.true)) (Wrote 0) _
    (λ fresh. writes_nothing c.args.self.now (inode_at (client_of c.args.self.now c.args.client) c.args.number)
    c.args.offset c.args.bytes.now (sym c.is_empty.ensures ∙ c.if-is_empty.true))

pub returns-then-ends_too_late : goal.returns-then-ends_too_late
returns-then-ends_too_late c =
    refused_after c.args.self.now c.args.client (Write c.args.number c.args.offset c.args.bytes.now)
    (both_free _ [] c.in-Ok.ensures.free refl)
    (no_denials c.args.self.now (client_of c.args.self.now c.args.client).domain) EFBIG
    (ap (λ l. slice_get l 0) (too_long_if (length c.args.bytes.now) _ true (sym c.is_empty.ensures
    ∙ c.if-is_empty.false) (ap (λ n. is_too_long (c.args.offset + n)) (sym c.len-len.ensures.len)
    ∙ sym c.ends_too_late.ensures ∙ c.if-ends_too_late.true)))

pub returns-in-Err-put : goal.returns-in-Err-put
returns-in-Err-put c =
    starves c.args.self.now c.args.client (Write c.args.number c.args.offset c.args.bytes.now)
    (both_free _ [] c.in-Ok.ensures.free refl)
    (no_denials c.args.self.now (client_of c.args.self.now c.args.client).domain)
    (too_long_if (length c.args.bytes.now) _ false (sym c.is_empty.ensures ∙ c.if-is_empty.false)
    (ap (λ n. is_too_long (c.args.offset + n)) (sym c.len-len.ensures.len) ∙ sym c.ends_too_late.ensures
    ∙ c.if-ends_too_late.false)) _ c.in-Err-put.ensures.err refl

pub returns : goal.returns
returns c =
    does c.args.self.now c.args.client (Write c.args.number c.args.offset c.args.bytes.now)
    (both_free _ [] c.in-Ok.ensures.free refl)
    (no_denials c.args.self.now (client_of c.args.self.now c.args.client).domain)
    (too_long_if (length c.args.bytes.now) _ false (sym c.is_empty.ensures ∙ c.if-is_empty.false)
    (ap (λ n. is_too_long (c.args.offset + n)) (sym c.len-len.ensures.len) ∙ sym c.ends_too_late.ensures
    ∙ c.if-ends_too_late.false)) (Wrote c.len-len.result) _
    (λ fresh. writes_some c.args.self.now c.put.new.self
    (inode_at (client_of c.args.self.now c.args.client) c.args.number) c.in-Ok.file.inode c.args.offset
    c.args.bytes.now c.as_slice.result.now c.len-len.result (sym c.is_empty.ensures ∙ c.if-is_empty.false)
    c.len-len.ensures.len c.as_slice.ensures.bytes
    (file_is (client_of c.args.self.now c.args.client) c.args.number c.in-Ok.file c.in-Ok.ensures.there)
    c.in_default.ensures.ok)
