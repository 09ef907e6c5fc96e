use Rattle.std.proofs.Common.{inl, inr, ◌≡◌, Err, rules}
use Rattle.ll_commands.proofs.profiles.tables_in.Goals as goal

pub returns-in_err-policy-clause-failure : goal.returns-in_err-policy-clause-failure
returns-in_err-policy-clause-failure g c =
    let same : c.from_residual.result ≡ Err c.in_err-policy.field-0.0 = search rules in
    rw same (inr (inl c.in_err-policy.ensures.failure))
