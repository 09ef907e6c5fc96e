use Rattle.std.proofs.Common.{◌≡◌, Err, arith, rules}
use Rattle.std.proofs.lemmas.Grind.{common_steps}
use Rattle.ll_wire.proofs.FirstTokens.{write_fails}
use Rattle.ll_wire.proofs.read.write.Goals as goal

pub returns-in_err-bytes : goal.returns-in_err-bytes
returns-in_err-bytes c =
    let same : c.from_residual.result ≡ Err c.in_err-bytes.field-0.0 = search rules in
    rw same (write_fails _ _ _ _ c.in-Some.fd c.in-Some-number_of.offset c.in_err-bytes.field-0.0 (grind (
      arith,
      common_steps,
    )) c.in-Some.ensures c.in-Some-number_of.ensures c.in_err-bytes.ensures)
