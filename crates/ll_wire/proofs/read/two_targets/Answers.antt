use Rattle.std.proofs.Common.{◌≡◌, Err, arith, rules}
use Rattle.std.proofs.lemmas.Grind.{common_steps}
use Rattle.ll_wire.proofs.FirstTokens.{first_fails, second_fails, both_read}
use Rattle.ll_wire.proofs.read.two_targets.Goals as goal

pub returns-in_err-first : goal.returns-in_err-first
returns-in_err-first c =
    let same : c.from_residual.result ≡ Err c.in_err-first.field-0.0 = search rules in
    rw same (first_fails _ _ _ c.in_err-first.field-0.0 (grind (arith, common_steps))
    (c.if-not-fits.ensures.0 (search rules)) c.in_err-first.ensures)

pub returns-in_err-second : goal.returns-in_err-second
returns-in_err-second c =
    let same : c.from_residual-in_err-second.result ≡ Err c.in_err-second.field-0.0 = search rules in
    rw same (second_fails _ _ _ c.in_ok-first.first c.in_err-second.field-0.0 (grind (arith, common_steps))
    c.in_ok-first.ensures c.in_err-second.ensures)

pub returns : goal.returns
returns c = both_read _ _ _ c.in_ok-first.first c.in_ok-second.second (grind (arith, common_steps))
    c.in_ok-first.ensures c.in_ok-second.ensures
