use Rattle.std.proofs.Common.{ap, ◌∙◌, arith, bit_or}
use Rattle.ll_decide.proofs.Carried.{first_mask}
use Rattle.ll_decide.proofs.masks.unrestricted.Goals as goal

pub returns : goal.returns
returns c = first_mask c.args.layer.now c.with-restricted.result.0 (c.with-restricted.ensures
    ∙ ap (λ n. bit_or n 0x2000) c.handled.ensures) (omega arith)
