use Rattle.std.proofs.Common.{arith}
use Rattle.std.proofs.lemmas.Grind.{common_steps}
use Rattle.ll_wire.proofs.FirstReads.{no_right_words}
use Rattle.ll_wire.proofs.first_words.layer_words.Goals as goal

pub returns-in_err-right-in-len2 : goal.returns-in_err-right-in-len2
returns-in_err-right-in-len2 c = rw c.from_residual-in_err-right-in-len2.ensures
    (no_right_words _ _ c.args.cause (grind (arith, common_steps)) (grind (arith, common_steps))
    c.in_err-right-in-len2.ensures.none)

pub returns-in_err-parse-in-len3 : goal.returns-in_err-parse-in-len3
returns-in_err-parse-in-len3 c = rw c.from_residual-in_err-parse-in-len3.ensures
    (no_right_words _ _ c.args.cause (grind (arith, common_steps)) (grind (arith, common_steps))
    c.in_err-parse-in-len3.ensures.none)
