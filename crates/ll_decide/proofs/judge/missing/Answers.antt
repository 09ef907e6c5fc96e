use Rattle.std.specs.Prelude.{not, ◌&&◌}
use Rattle.std.proofs.Common.{ap, ◌∙◌, sym, arith}
use Rattle.std.proofs.lemmas.Option.{get_or_from_slice_get}
use Rattle.ll_rights.specs.Access.{holds}
use Rattle.ll_decide.proofs.Sets.{holds_missing}
use Rattle.ll_decide.proofs.judge.missing.Goals as goal

pub returns : goal.returns
returns c right known =
    holds_missing c.args.rights.0 c.layer-granted.result.0 right (omega arith) known
    ∙ ap (λ n. holds c.args.rights.0 right && not (holds n right))
    (sym (get_or_from_slice_get c.args.masks.now c.args.layer c.layer-granted.result.0 0 c.layer-granted.ensures))
