use Rattle.ll_steps.proofs.LentContents.{bounds_again}
use Rattle.ll_steps.proofs.world.World.restart.Goals as goal

pub restart_with-requires-clause-there : goal.restart_with-requires-clause-there
restart_with-requires-clause-there c =
    bounds_again c.self.inside.journal c.self.inside.slots.items c.deref_mut.result.now c.stands_in-slots.result
    c.as_slice-numbers.result.now c.self.invariant.accounts c.deref_mut.ensures.value c.as_slice-numbers.ensures
    c.stands_in-slots.ensures.within
