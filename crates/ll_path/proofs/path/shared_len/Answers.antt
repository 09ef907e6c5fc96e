use Rattle.std.proofs.Common.{arith, sym, ◌∙◌}
use Rattle.ll_path.proofs.CommonNames.{common_le, common_step_le}
use Rattle.ll_path.proofs.path.shared_len.Goals as goal

pub overflow_add-len-in-Some-next : goal.overflow_add-len-in-Some-next
overflow_add-len-in-Some-next c =
    omega (
      arith,
      common_le c.args.names c.args.others,
      c.loop-name.invariant,
      common_step_le _ _ _ _ _ _ c.in-Some.ensures.steps c.in-Some-next.ensures.steps (sym c.is_same.ensures
          ∙ c.if-is_same.true),
    )
