use Rattle.std.proofs.Common.{rules, ◌≡◌, ◌<◌, length, subst}
use Rattle.ll_laws.specs.World.{World, NotNow, advance}
use Rattle.ll_laws.specs.declared.step.Step.TheVariants.{Descend}
use Rattle.ll_steps.proofs.LentContents.{bound_of, bound_again, at_index}
use Rattle.ll_steps.proofs.WalkMakes.{no_further}
use Rattle.ll_steps.proofs.world.World.descend.Goals as goal

pub index-requires : goal.index-requires
index-requires c =
    let within : c.in-Some.from < length c.self.inside.slots.items =
    bound_of c.self.inside.journal c.self.inside.slots.items c.in-Some.from c.self.invariant.accounts
    c.in-Some.ensures.within in
    search rules

pub next_slot-requires : goal.next_slot-requires
next_slot-requires c = at_index c.self.inside.journal c.self.inside.slots.items c.in-Some.from c.index.result.now
    c.self.invariant.accounts c.in-Some.ensures.within c.index.ensures

pub returns-in_default-next_slot : goal.returns-in_default-next_slot
returns-in_default-next_slot c =
    let turned = c.in-Some.ensures.some in
    subst (λ (w : World). advance w (Descend c.args.client) ≡ (NotNow, w)) c.self.view_is
    (no_further c.self.inside.journal c.args.client c.in-Some.from turned.0 turned.1 turned.2
    c.in_default-next_slot.ensures.none)

pub descend_between-requires-clause-here : goal.descend_between-requires-clause-here
descend_between-requires-clause-here c =
    bound_again c.self.inside.journal c.self.inside.slots.items c.deref_mut.result.now c.in-Some.from
    c.self.invariant.accounts c.deref_mut.ensures.value c.in-Some.ensures.within

pub descend_between-requires-clause-there : goal.descend_between-requires-clause-there
descend_between-requires-clause-there c =
    bound_again c.self.inside.journal c.self.inside.slots.items c.deref_mut.result.now c.in-Some-next_slot.to
    c.self.invariant.accounts c.deref_mut.ensures.value c.in-Some-next_slot.ensures.within
