use Rattle.std.proofs.Common.{arith, rules}
use Rattle.std.proofs.lemmas.Grind.{common_steps}
use Rattle.ll_wire.proofs.ReadReplies.{no_right, no_place, five, denied}
use Rattle.ll_wire.proofs.replies.denial_of.Goals as goal

pub returns-in_err-parse-2 : goal.returns-in_err-parse-2
returns-in_err-parse-2 c = rw c.from_residual-in_err-parse-2.ensures
    (no_right _ _ (grind (arith, common_steps)) c.in_err-parse-2.ensures.none)

pub returns-in_err-parse-3 : goal.returns-in_err-parse-3
returns-in_err-parse-3 c = rw c.from_residual-in_err-parse-3.ensures
    (no_place _ _ (grind (arith, common_steps)) c.in_err-parse-3.ensures.none)

pub returns : goal.returns
returns c = denied _ _ _ _ _ _ _ (five c.args.args.now _ (omega arith)) c.in_ok-parse.ensures.found (search rules)
    c.in_ok-number_of.ensures c.in_ok-parse-2.ensures.known c.in_ok-parse-2.ensures.found
    c.in_ok-parse-3.ensures.found
