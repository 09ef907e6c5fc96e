use Rattle.std.proofs.Common.{rules, ◌<◌, length}
use Rattle.ll_steps.proofs.LentContents.{bound_of, bounds_again, at_index}
use Rattle.ll_steps.proofs.world.World.commit.Goals as goal

pub index-requires : goal.index-requires
index-requires c =
    let within : c.in-Some.slot < length c.self.inside.slots.items =
    bound_of c.self.inside.journal c.self.inside.slots.items c.in-Some.slot c.self.invariant.accounts
    c.in-Some.ensures.within in
    search rules

pub end_slots-slots-requires : goal.end_slots-slots-requires
end_slots-slots-requires c = at_index c.self.inside.journal c.self.inside.slots.items c.in-Some.slot c.index.result.now
    c.self.invariant.accounts c.in-Some.ensures.within c.index.ensures

pub commit_with-requires-clause-there : goal.commit_with-requires-clause-there
commit_with-requires-clause-there c =
    bounds_again c.self.inside.journal c.self.inside.slots.items c.deref_mut.result.now c.end_slots-slots.result
    c.as_slice-numbers.result.now c.self.invariant.accounts c.deref_mut.ensures.value c.as_slice-numbers.ensures
    c.end_slots-slots.ensures.within
