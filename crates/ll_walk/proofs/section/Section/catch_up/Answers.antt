use Rattle.std.proofs.Common.{length, ◌∙◌}
use Rattle.ll_walk.proofs.section.Section.catch_up.Goals as goal

pub returns-clause-mine : goal.returns-clause-mine
returns-clause-mine g c =
    c.catch_up.ensures.mine ∙ (λ i. record c.args.me.now.rider {
      seen = length ((c.catch_up.ensures.same ∙ c.deref_mut.ensures.value) i).world.history;
    })
