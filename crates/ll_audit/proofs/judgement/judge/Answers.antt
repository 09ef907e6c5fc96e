use Rattle.std.proofs.Common.{ℕ, sym, subst}
use Rattle.ll_wire.specs.Pieces.{pieces}
use Rattle.ll_audit.specs.Saved.{Judges, bad}
use Rattle.ll_audit.specs.declared.verdict.Verdict.TheVariants.{BadLine}
use Rattle.ll_audit.proofs.judgement.judge.Goals as goal

pub returns-in-Err-BadLine-clause-verdict : goal.returns-in-Err-BadLine-clause-verdict
returns-in-Err-BadLine-clause-verdict g c =
    let line = c.in-Err-BadLine.line in
    subst (λ (n : ℕ). Judges (pieces c.args.bytes.now) (BadLine n)) (sym c.in-Err-BadLine.line-is)
    (bad line (c.in-Err-BadLine.ensures.bad line c.in-Err-BadLine.field-0-is))
