use Rattle.std.specs.Prelude.{◌&&◌, not}
use Rattle.std.proofs.Common.{ap, ◌∙◌}
use Rattle.ll_rights.specs.Access.{holds}
use Rattle.ll_rules.specs.Layer.{grants_on}
use Rattle.ll_why.proofs.Sets.{not_lacked}
use Rattle.ll_why.proofs.reason.gained.Goals as goal

pub returns-clause-rights : goal.returns-clause-rights
returns-clause-rights c right known =
    let set = c.args.rights.0 in
    let layer = c.args.layer.now in
    let had = c.without-had.ensures.rights right known
    ∙ ap (λ b. holds set right && not b) (c.lacked.ensures.rights right known)
    ∙ not_lacked (holds set right) (grants_on layer c.args.into.now right) in
    c.lacked-2.ensures.rights right known ∙ ap (λ b. b && not (grants_on layer c.args.from.now right)) had
