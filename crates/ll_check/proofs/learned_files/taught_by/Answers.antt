use Rattle.std.proofs.Common.{inl, inr, ◌≡◌, Err, rules}
use Rattle.ll_check.proofs.learned_files.taught_by.Goals as goal

pub returns-in-Ok-None-clause-nothing : goal.returns-in-Ok-None-clause-nothing
returns-in-Ok-None-clause-nothing g c = inl (rw c.in-Ok-None.field-0-is at c.in-Ok-None.ensures.unmet)

pub returns-in-Err-clause-failure : goal.returns-in-Err-clause-failure
returns-in-Err-clause-failure g c = inr c.in-Err.ensures.failure

pub returns-in_err-blank-clause-failure : goal.returns-in_err-blank-clause-failure
returns-in_err-blank-clause-failure g c =
    let same : c.from_residual.result ≡ Err c.in_err-blank.field-0.0 = search rules in
    rw same (inr c.in_err-blank.ensures.failure)
