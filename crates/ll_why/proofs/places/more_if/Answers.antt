use Rattle.std.specs.Prelude.{◌<◌, ◌^◌, ◌&&◌, ◌||◌, ℕ}
use Rattle.std.proofs.Common.{ap, subst, sym, ◌∙◌}
use Rattle.std.proofs.lemmas.Nat.{or_lt}
use Rattle.ll_rights.specs.Access.{holds}
use Rattle.ll_why.proofs.Sets.{holds_with}
use Rattle.ll_why.proofs.places.more_if.Goals as goal

pub returns-then-test-clause-known : goal.returns-then-test-clause-known
returns-then-test-clause-known c low few =
    subst (λ (n : ℕ). n < 2 ^ 15) (sym c.with.ensures) (or_lt 15 c.args.rights.0 c.args.more.0 low few)

pub returns-then-test-clause-rights : goal.returns-then-test-clause-rights
returns-then-test-clause-rights c right =
    holds_with _ _ _ right c.with.ensures
    ∙ ap (λ b. holds c.args.rights.0 right || (b && holds c.args.more.0 right)) (sym c.if-test.true)
