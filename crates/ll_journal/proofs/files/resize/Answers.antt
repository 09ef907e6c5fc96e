use Rattle.std.proofs.Common.{ap}
use Rattle.ll_node.specs.Slot.{Slot}
use Rattle.ll_journal.proofs.HeldReplies.{if_copied}
use Rattle.ll_journal.proofs.FileCalls.{comes_unsized, comes_denied, comes_not_resized, comes_resized, free_to_resize}
use Rattle.ll_journal.proofs.files.resize.Goals as goal

pub returns-then-not-file-clause-ok : goal.returns-then-not-file-clause-ok
returns-then-not-file-clause-ok c =
    if_copied _ c.new.result _ c.new.ensures.ok
    (comes_unsized c.args.file.now c.args.node.now.bytes c.args.size c.if-not-file.true)

pub returns-in-Some-clause-ok : goal.returns-in-Some-clause-ok
returns-in-Some-clause-ok c =
    if_copied _ c.new-in-Some.result _ c.new-in-Some.ensures.ok
    (comes_denied c.args.file.now c.args.node.now.bytes c.args.size c.in-Some.layer c.if-not-file.false
    c.in-Some.is)

pub returns-in-Ok-clause-ok : goal.returns-in-Ok-clause-ok
returns-in-Ok-clause-ok c =
    if_copied _ c.new-in-Ok.result _ c.new-in-Ok.ensures.ok
    (comes_resized c.args.file.now c.args.node.now.bytes c.args.size c.set_len.new.self.bytes c.if-not-file.false
    c.in_default.is c.in-Ok.ensures.free (ap (λ (n : Slot). n.bytes) c.in-Ok.ensures.ok))

pub returns-in-Err-clause-ok : goal.returns-in-Err-clause-ok
returns-in-Err-clause-ok c =
    comes_not_resized c.args.file.now c.args.node.now.bytes c.args.size c.set_len.new.self.bytes c.in-Err.errno
    c.refusal.result c.if-not-file.false c.in_default.is c.in-Err.ensures.refused
    (ap (λ (n : Slot). n.bytes) c.in-Err.ensures.err) c.refusal.ensures.ok

pub returns-in-Err-clause-starved : goal.returns-in-Err-clause-starved
returns-in-Err-clause-starved c =
    free_to_resize c.args.file.now c.args.size c.in-Err.errno c.refusal.result c.if-not-file.false c.in_default.is
    c.in-Err.ensures.refused c.refusal.ensures.err
