use Rattle.std.specs.Prelude.{◌||◌}
use Rattle.std.proofs.Common.{ap, sym, ◌∙◌}
use Rattle.ll_rights.specs.Access.{holds}
use Rattle.ll_decide.proofs.Bits.{holds_all}
use Rattle.ll_why.proofs.Sets.{or_so}
use Rattle.ll_why.proofs.places.all_if.Goals as goal

pub returns-then-test : goal.returns-then-test
returns-then-test c right known =
    let set = c.args.rights.0 in
    holds_all right known ∙ sym (ap (λ b. holds set right || b) c.if-test.true ∙ or_so (holds set right))
