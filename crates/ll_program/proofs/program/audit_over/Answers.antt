use Rattle.std.proofs.Common.{◌∙◌, ap, Err}
use Rattle.ll_program.proofs.Audited.{audit_fails}
use Rattle.ll_program.proofs.program.audit_over.Goals as goal

pub returns-in-Err-clause-failure : goal.returns-in-Err-clause-failure
returns-in-Err-clause-failure g c =
    audit_fails c.in-Err.fault c.of_audit.result _ _ _ c.of_audit.ensures c.in-Err.ensures.silent
    (λ e. c.run_audit_over.ensures.begun (c.in-Err.is ∙ ap Err e))
