-- Audits that fail.
use Rattle.std.proofs.Common.{◌≡◌, ◌≢◌, ℕ, List, Option, refl, subst, sym}
use Rattle.std.specs.Prelude.{IfSome}
use Rattle.ll_wire.specs.Pieces.{pieces}
use Rattle.ll_wire.specs.WriterGains.{AppendsFront}
use Rattle.ll_audit.specs.Saved.{Judges, verdict_line}
use Rattle.ll_audit.specs.declared.file_audit.FileAuditFault.{FileAuditFault}
use Rattle.ll_audit.specs.declared.file_audit.FileAuditFault.TheVariants as audit
use Rattle.ll_audit.specs.declared.verdict.Verdict.{Verdict}
use Rattle.ll_program.specs.declared.failure.Failure.{Failure}
use Rattle.ll_program.specs.Failure.{FailsAudit, failure_at}

-- by what its fault has written
pub audit_fails : (fault : FileAuditFault) (failure : Failure) (text out out' : Option (List ℕ))
    → failure ≡ failure_at fault → (fault ≢ audit.Write → out' ≡ out)
    → (fault ≡ audit.Write → (verdict : Verdict) × IfSome text (λ bytes. Judges (pieces bytes) verdict)
    × AppendsFront out out' (verdict_line verdict))
    → FailsAudit text out out' failure
audit_fails audit.Read failure text out out' is silent begun =
    subst (FailsAudit text out out') (sym is) (silent (λ e. absurd cc))
audit_fails audit.Write failure text out out' is silent begun = subst (FailsAudit text out out') (sym is) (begun refl)
audit_fails audit.NoMemory failure text out out' is silent begun =
    subst (FailsAudit text out out') (sym is) (silent (λ e. absurd cc))
