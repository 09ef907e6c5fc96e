use Rattle.ll_steps.proofs.ContentsKept.{begin_keeps}
use Rattle.ll_steps.proofs.world.World.begin.Goals as goal

pub invariant_of-self : goal.invariant_of-self
invariant_of-self c = begin_keeps _ _ _ c.args.client c.args.call c.begin.result c.self.invariant c.begin.ensures.begun
    c.begin.ensures.same c.begin.ensures.spares

pub invariant_of-self-2 : goal.invariant_of-self-2
invariant_of-self-2 c = begin_keeps _ _ _ c.args.client c.args.call c.begin.result c.self.invariant
    c.begin.ensures.begun c.begin.ensures.same c.begin.ensures.spares
