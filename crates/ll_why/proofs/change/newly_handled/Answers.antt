use Rattle.std.specs.Prelude.{◌&&◌, ◌||◌, not}
use Rattle.std.proofs.Common.{ap, ◌∙◌}
use Rattle.ll_rights.specs.Access.{holds}
use Rattle.ll_decide.proofs.Bits.{holds_refer}
use Rattle.ll_why.proofs.Sets.{holds_with}
use Rattle.ll_why.proofs.change.newly_handled.Goals as goal

pub returns-clause-rights : goal.returns-clause-rights
returns-clause-rights c right known =
    let sets = c.args.sets in
    let any = holds_with _ _ _ right c.with-added.ensures
    ∙ ap (λ b. b || holds sets.parent.0 right) (holds_with _ _ _ right c.with-2.ensures
    ∙ ap (λ b. b || holds sets.entered.0 right) (holds_with _ _ _ right c.with.ensures)) in
    let refers = c.both.ensures.rights right ∙ (λ i. holds_refer right known i && any i) in
    c.without.ensures.rights right known ∙ (λ i. refers i && not (holds (c.handled.ensures i) right))
