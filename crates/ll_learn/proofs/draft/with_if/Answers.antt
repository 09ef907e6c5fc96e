use Rattle.std.proofs.Common.{◌==◌, ◌||◌, ap, ◌∙◌}
use Rattle.ll_rights.specs.Access.{holds}
use Rattle.ll_decide.proofs.Bits.{holds-or}
use Rattle.ll_learn.proofs.Places.{and_so, only_holds}
use Rattle.ll_learn.proofs.draft.with_if.Goals as goal

pub returns-then-test : goal.returns-then-test
returns-then-test c other known =
    ap (λ n. holds n other) c.with.ensures ∙ holds-or c.args.rights.0 c.access.result.0 other
    ∙ ap (λ b. holds c.args.rights.0 other || b) (ap (λ n. holds n other) c.access.ensures
    ∙ only_holds c.args.right other ∙ and_so (other == c.args.right) c.args.test c.if-test.true)
