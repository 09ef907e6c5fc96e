use Rattle.std.proofs.Common.{◌≡◌, ◌∷◌, [], inl, inr, arith, rules}
use Rattle.ll_wire.proofs.Digits.{of_another_length, by_digits}
use Rattle.ll_wire.proofs.bytes.spells_data.Goals as goal
use Rattle.ll_wire.proofs.bytes.spells_data.Goals.{then-token-lt2-via-then-token-lt2}
use Rattle.ll_wire.proofs.bytes.spells_data.Goals.{then-token-lt2-via-else-token-lt2+then-token}
use Rattle.ll_wire.proofs.bytes.spells_data.Goals.{then-token-lt2-via-else-token-lt2+else-token+then-token-ne0}

pub returns : goal.returns
returns c = by_digits c.args.token.now c.are_digits.result (search rules) (omega arith) (omega arith) (omega arith)
    c.are_digits.ensures

pub returns-then-token-lt2 : goal.returns-then-token-lt2
returns-then-token-lt2 c bytes is =
    let other : c.args.token.now ≡ 45 ∷ [] → ⊥ = search rules in
    elim c.then-token-lt2.branch [
      | then-token-lt2-via-then-token-lt2 w ↦ of_another_length _ bytes other (inl (omega arith)) is
      | then-token-lt2-via-else-token-lt2+then-token w ↦ of_another_length _ bytes other (inr (inl (omega arith))) is
      | then-token-lt2-via-else-token-lt2+else-token+then-token-ne0 w ↦
          of_another_length _ bytes other (inr (inr (omega arith))) is
    ]
