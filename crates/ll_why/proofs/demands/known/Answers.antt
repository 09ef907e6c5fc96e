use Rattle.std.specs.Prelude.{◌&&◌}
use Rattle.std.proofs.Common.{ap, arith, ◌∙◌}
use Rattle.ll_rights.specs.Access.{holds}
use Rattle.ll_decide.proofs.Bits.{holds_all}
use Rattle.ll_why.proofs.demands.known.Goals as goal

pub returns-clause-known : goal.returns-clause-known
returns-clause-known c = omega (arith, c.both.ensures.fewer)

pub returns-clause-rights : goal.returns-clause-rights
returns-clause-rights c right known =
    c.both.ensures.rights right ∙ ap (λ b. b && holds c.args.rights.0 right) (holds_all right known)
