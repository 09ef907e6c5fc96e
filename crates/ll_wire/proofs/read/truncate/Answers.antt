use Rattle.std.proofs.Common.{◌≡◌, Err, arith, rules}
use Rattle.std.proofs.lemmas.Grind.{common_steps}
use Rattle.ll_wire.proofs.FirstTokens.{truncate_fails}
use Rattle.ll_wire.proofs.Targets.{text_is, own_text}
use Rattle.ll_wire.proofs.read.truncate.Goals as goal

pub returns : goal.returns
returns c =
    let text = text_is _ _ c.in_ok-target.ensures in
    ((own_text _ _ c.in_ok-target.ensures, c.in-Some.ensures.0), grind (arith, common_steps))

pub returns-in_err-target : goal.returns-in_err-target
returns-in_err-target c =
    let same : c.from_residual.result ≡ Err c.in_err-target.field-0.0 = search rules in
    rw same (truncate_fails _ _ _ c.in-Some.size c.in_err-target.field-0.0 (grind (arith, common_steps))
    c.in-Some.ensures c.in_err-target.ensures)
