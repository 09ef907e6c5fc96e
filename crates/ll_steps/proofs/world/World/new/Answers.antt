use Rattle.ll_steps.proofs.ContentsKept.{kept_new}
use Rattle.ll_steps.proofs.world.World.new.Goals as goal

pub invariant_of-result : goal.invariant_of-result
invariant_of-result c = kept_new c.args.rules c.args.nodes c.args.history _ _ c.in_ok-new.ensures
    c.in_ok-new_slots.ensures
