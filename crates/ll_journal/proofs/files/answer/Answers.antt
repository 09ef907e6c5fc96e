use Rattle.std.proofs.Common.{subst, sym}
use Rattle.std.specs.Prelude.{IfOk, OnErr}
use Rattle.ll_journal.specs.Files.{ComesOn, IsFreeOn, on_bytes}
use Rattle.ll_journal.specs.declared.files.BytesCall.{BytesCall}
use Rattle.ll_journal.proofs.files.answer.Goals as goal

pub returns-in-Read-clause-ok : goal.returns-in-Read-clause-ok
returns-in-Read-clause-ok c =
    subst (λ (asked : BytesCall). IfOk c.read.result
    (λ reply. ComesOn c.args.file.now (on_bytes asked) c.args.held.now.node.bytes reply c.args.held.now.node.bytes))
    (sym c.in-Read.is) c.read.ensures.ok

pub returns-in-Write-clause-ok : goal.returns-in-Write-clause-ok
returns-in-Write-clause-ok c =
    subst (λ (asked : BytesCall). IfOk c.write.result
    (λ reply. ComesOn c.args.file.now (on_bytes asked) c.args.held.now.node.bytes reply c.write.new.node.bytes))
    (sym c.in-Write.is) c.write.ensures.ok

pub returns-in-Resize-clause-ok : goal.returns-in-Resize-clause-ok
returns-in-Resize-clause-ok c =
    subst (λ (asked : BytesCall). IfOk c.resize.result
    (λ reply. ComesOn c.args.file.now (on_bytes asked) c.args.held.now.node.bytes reply c.resize.new.node.bytes))
    (sym c.in-Resize.is) c.resize.ensures.ok

pub returns-in-Read-clause-starved : goal.returns-in-Read-clause-starved
returns-in-Read-clause-starved c =
    subst (λ (asked : BytesCall). OnErr c.read.result (IsFreeOn c.args.file.now (on_bytes asked))) (sym c.in-Read.is)
    c.read.ensures.starved

pub returns-in-Write-clause-starved : goal.returns-in-Write-clause-starved
returns-in-Write-clause-starved c =
    subst (λ (asked : BytesCall). OnErr c.write.result (IsFreeOn c.args.file.now (on_bytes asked))) (sym c.in-Write.is)
    c.write.ensures.starved

pub returns-in-Resize-clause-starved : goal.returns-in-Resize-clause-starved
returns-in-Resize-clause-starved c =
    subst (λ (asked : BytesCall). OnErr c.resize.result (IsFreeOn c.args.file.now (on_bytes asked)))
    (sym c.in-Resize.is) c.resize.ensures.starved
