use Rattle.std.proofs.Common.{ap}
use Rattle.ll_node.specs.Slot.{Slot}
use Rattle.ll_journal.proofs.HeldReplies.{if_copied}
use Rattle.ll_journal.proofs.FileCalls.{comes_unwritable, comes_not_written, comes_written, free_to_write}
use Rattle.ll_journal.proofs.files.write.Goals as goal

pub returns-then-not-file-clause-ok : goal.returns-then-not-file-clause-ok
returns-then-not-file-clause-ok c =
    if_copied _ c.new.result _ c.new.ensures.ok
    (comes_unwritable c.args.file.now c.args.node.now.bytes c.args.offset c.args.bytes.now c.if-not-file.true)

pub returns-in-Ok-clause-ok : goal.returns-in-Ok-clause-ok
returns-in-Ok-clause-ok c =
    if_copied _ c.new-in-Ok.result _ c.new-in-Ok.ensures.ok
    (comes_written c.args.file.now c.args.node.now.bytes c.args.offset c.args.bytes.now c.as_slice.result.now
    c.write_at.new.self.bytes c.len.result c.if-not-file.false c.as_slice.ensures.bytes
    c.in-Ok.ensures.free c.len.ensures.len (ap (λ (n : Slot). n.bytes) c.in-Ok.ensures.ok))

pub returns-in-Err-clause-ok : goal.returns-in-Err-clause-ok
returns-in-Err-clause-ok c =
    comes_not_written c.args.file.now c.args.node.now.bytes c.args.offset c.args.bytes.now c.as_slice.result.now
    c.write_at.new.self.bytes c.in-Err.errno c.refusal.result c.if-not-file.false
    c.as_slice.ensures.bytes c.in-Err.ensures.refused (ap (λ (n : Slot). n.bytes) c.in-Err.ensures.err)
    c.refusal.ensures.ok

pub returns-in-Err-clause-starved : goal.returns-in-Err-clause-starved
returns-in-Err-clause-starved c =
    free_to_write c.args.file.now c.args.offset c.args.bytes.now c.as_slice.result.now c.in-Err.errno c.refusal.result
    c.if-not-file.false c.as_slice.ensures.bytes c.in-Err.ensures.refused c.refusal.ensures.err
