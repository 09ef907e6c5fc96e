use Rattle.std.specs.Prelude.{◌&&◌}
use Rattle.std.proofs.Common.{ap, ◌∙◌}
use Rattle.ll_rights.specs.Access.{holds}
use Rattle.ll_decide.proofs.Bits.{holds-and}
use Rattle.ll_why.proofs.grants.rule_grants.Goals as goal

pub returns-clause-rights : goal.returns-clause-rights
returns-clause-rights c right known =
    holds-and c.args.rights.0 c.rule.result.0 right
    ∙ ap (λ n. holds c.args.rights.0 right && holds n right) c.rule.ensures
