use Rattle.std.proofs.Common.{inl, inr, arith, rules}
use Rattle.std.proofs.lemmas.Grind.{common_steps}
use Rattle.ll_wire.proofs.ReadReplies.{refused_fails}
use Rattle.ll_wire.proofs.replies.refusal_of.Goals as goal
use Rattle.ll_wire.proofs.replies.refusal_of.Goals.{then-number-via-then-number}
use Rattle.ll_wire.proofs.replies.refusal_of.Goals.{then-number-via-else-number+then-number-lt3}
use Rattle.ll_wire.proofs.replies.refusal_of.Goals.{then-number-via-else-number+else-number-lt3+then-number-gt23}

pub returns-then-number : goal.returns-then-number
returns-then-number c = refused_fails _ _ _ c.in_ok-number.number c.in_ok-errno.errno (grind (arith, common_steps))
    c.in_ok-number.ensures c.in_ok-errno.ensures.found
    (elim c.then-number.branch [
      | then-number-via-then-number w ↦ inl (search rules)
      | then-number-via-else-number+then-number-lt3 w ↦ inr (inl (omega arith))
      | then-number-via-else-number+else-number-lt3+then-number-gt23 w ↦ inr (inr (omega arith))
    ])
