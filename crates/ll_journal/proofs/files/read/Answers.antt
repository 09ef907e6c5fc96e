use Rattle.ll_journal.proofs.HeldReplies.{if_copied}
use Rattle.ll_journal.proofs.FileCalls.{comes_too_long, comes_unreadable, comes_read, free_to_read}
use Rattle.ll_journal.proofs.files.read.Goals as goal

pub returns-then-count-gt-MOST_READ-clause-ok : goal.returns-then-count-gt-MOST_READ-clause-ok
returns-then-count-gt-MOST_READ-clause-ok c =
    if_copied _ c.new.result _ c.new.ensures.ok
    (comes_too_long c.args.file.now c.args.node.now.bytes c.args.offset c.args.count c.if-count-gt-MOST_READ.true)

pub returns-then-not-file-clause-ok : goal.returns-then-not-file-clause-ok
returns-then-not-file-clause-ok c =
    if_copied _ c.new-then-not-file.result _ c.new-then-not-file.ensures.ok
    (comes_unreadable c.args.file.now c.args.node.now.bytes c.args.offset c.args.count c.if-count-gt-MOST_READ.false
    c.if-not-file.true)

pub returns-clause-ok : goal.returns-clause-ok
returns-clause-ok c =
    if_copied _ c.new-2.result _ c.new-2.ensures.ok
    (comes_read c.args.file.now c.args.node.now.bytes c.args.offset c.args.count c.in_ok-bytes.bytes
    c.if-count-gt-MOST_READ.false c.if-not-file.false c.in_ok-bytes.ensures)

pub returns-in_err-bytes-clause-starved : goal.returns-in_err-bytes-clause-starved
returns-in_err-bytes-clause-starved c =
    free_to_read c.args.file.now c.args.offset c.args.count c.from_residual.result c.if-count-gt-MOST_READ.false
    c.if-not-file.false

pub returns-clause-starved : goal.returns-clause-starved
returns-clause-starved c = free_to_read c.args.file.now c.args.offset c.args.count c.new-2.result
    c.if-count-gt-MOST_READ.false c.if-not-file.false
