use Rattle.ll_steps.proofs.LentContents.{bound_again}
use Rattle.ll_steps.proofs.world.World.enter.Goals as goal

pub enter_at-requires-clause-there : goal.enter_at-requires-clause-there
enter_at-requires-clause-there c =
    bound_again c.self.inside.journal c.self.inside.slots.items c.deref_mut.result.now c.root_slot-slot.result
    c.self.invariant.accounts c.deref_mut.ensures.value c.root_slot-slot.ensures.within
