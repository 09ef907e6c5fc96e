use Rattle.std.proofs.Common.{subst}
use Rattle.ll_steps.specs.Headline.{IsLawful}
use Rattle.ll_steps.proofs.AddedEntries.{lawful}
use Rattle.ll_steps.proofs.world.World.by_law.Goals as goal

pub returns : goal.returns
returns c = subst IsLawful c.self.view_is
    (lawful c.self.inside.journal.world c.self.invariant.sound c.self.invariant.within)
