use Rattle.std.proofs.Common.{take}
use Rattle.std.specs.Prelude.{All}
use Rattle.ll_seq.specs.State.{State}
use Rattle.ll_learn.specs.declared.needs.Moved.{Moved}
use Rattle.ll_learn.specs.Mended.{AreSiteChains, ArePathsTo}
use Rattle.ll_learn.proofs.site_chains.SiteChains.is_still.Given as goal

-- so far
abbrev pub invariant-loop-moved : goal.invariant-loop-moved
invariant-loop-moved l = (s : State) → AreSiteChains s l.self
    → All (λ (m : Moved). ArePathsTo s l.scope m.into.items) (take l.moved-index l.needs.moves.items)
