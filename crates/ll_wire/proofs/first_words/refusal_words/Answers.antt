use Rattle.std.proofs.Common.{inl, inr, arith}
use Rattle.ll_wire.proofs.FirstReads.{number_out, one}
use Rattle.ll_wire.proofs.first_words.refusal_words.Goals as goal
use Rattle.ll_wire.proofs.first_words.refusal_words.Goals.{then-number-lt3-via-then-number-lt3}
use Rattle.ll_wire.proofs.first_words.refusal_words.Goals.{then-number-lt3-via-else-number-lt3+then-number-gt23}

pub returns-then-number-lt3 : goal.returns-then-number-lt3
returns-then-number-lt3 c =
    number_out _ _ c.in_ok-number-in-len1.number (one c.args.args.now _ (omega arith)) c.in_ok-number-in-len1.ensures
    (elim c.then-number-lt3.branch [
      | then-number-lt3-via-then-number-lt3 w ↦ inl (omega arith)
      | then-number-lt3-via-else-number-lt3+then-number-gt23 w ↦ inr (omega arith)
    ])
