use Rattle.std.specs.Prelude.{bit_and, bit_or}
use Rattle.std.proofs.Common.{ap, ◌∙◌}
use Rattle.ll_rights.specs.Access.{holds}
use Rattle.ll_why.proofs.Sets.{holds_restricted}
use Rattle.ll_why.proofs.grants.restricted.Goals as goal

pub returns-clause-rights : goal.returns-clause-rights
returns-clause-rights c right known =
    ap (λ n. holds (bit_and c.args.rights.0 n) right) (c.with-all.ensures ∙ ap (λ n. bit_or n 0x2000) c.handled.ensures)
    ∙ holds_restricted c.args.layer.now c.args.rights.0 right known
