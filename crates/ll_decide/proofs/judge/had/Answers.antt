use Rattle.std.specs.Prelude.{◌&&◌}
use Rattle.std.proofs.Common.{ap, ◌∙◌, sym}
use Rattle.std.proofs.lemmas.Option.{get_or_from_slice_get}
use Rattle.ll_rights.specs.Access.{holds}
use Rattle.ll_decide.proofs.Bits.{holds-and}
use Rattle.ll_decide.proofs.judge.had.Goals as goal

pub returns : goal.returns
returns c right =
    holds-and c.args.rights.0 c.layer-granted.result.0 right
    ∙ ap (λ n. holds c.args.rights.0 right && holds n right)
    (sym (get_or_from_slice_get c.args.masks.now c.args.layer c.layer-granted.result.0 0 c.layer-granted.ensures))
