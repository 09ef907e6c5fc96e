use Rattle.std.specs.Prelude.{◌&&◌, ◌||◌, not}
use Rattle.std.proofs.Common.{ap, ◌∙◌}
use Rattle.ll_rights.specs.Access.{holds}
use Rattle.ll_why.proofs.Sets.{holds_with}
use Rattle.ll_why.proofs.places.Sets.denied.Goals as goal

pub returns : goal.returns
returns c right known =
    let sets = c.args.self in
    let at = holds_with _ _ _ right c.with-at.ensures
    ∙ (λ i. c.without.ensures.rights right known i || c.without-2.ensures.rights right known i) in
    let old = c.without-old.ensures.rights right known in
    let new = holds_with _ _ _ right c.with-new.ensures
    ∙ (λ i. c.without-3.ensures.rights right known i || c.without-4.ensures.rights right known i) in
    let back = c.without-back.ensures.rights right known
    ∙ ap (λ b. b && not (holds sets.other.0 right)) (c.both.ensures.rights right) in
    let there = c.without-there.ensures.rights right known
    ∙ ap (λ b. b && not (holds sets.itself.0 right)) (c.both-2.ensures.rights right) in
    holds_with _ _ _ right c.with-4.ensures
    ∙ (λ i. (holds_with _ _ _ right c.with-3.ensures
    ∙ (λ j. (holds_with _ _ _ right c.with-2.ensures
    ∙ (λ k. (holds_with _ _ _ right c.with.ensures ∙ (λ l. at l || old l)) k || new k)) j || back j)) i || there i)
