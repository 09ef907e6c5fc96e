use Rattle.ll_audit.proofs.FileRead.{judged_file}
use Rattle.ll_audit.proofs.file_audit.run_audit_over.Goals as goal

pub returns-in-Ok-write_verdict-clause-verdict : goal.returns-in-Ok-write_verdict-clause-verdict
returns-in-Ok-write_verdict-clause-verdict g c =
    judged_file (g.E.Ends.devices c.args.ends.now).remaining c.in_ok-bytes.bytes.items c.as_slice.result.now
    c.in-Ok.verdict c.in_ok-bytes.ensures.bytes c.as_slice.ensures.value c.in-Ok.ensures.verdict
