use Rattle.std.proofs.Common.{length, subst, ◌<◌}
use Rattle.std.specs.List.{AllByRecursion}
use Rattle.ll_steps.proofs.LentContents.{at_slot, bound_of}
use Rattle.ll_steps.proofs.reason.+first_in_way.Goals as goal

pub slot_in_way-requires : goal.slot_in_way-requires
slot_in_way-requires t c =
    let there = subst (AllByRecursion (λ k. k < length c.args.slots.now)) c.in-Some.ensures.cases.0 c.requires.there in
    at_slot c.args.journal.now c.args.slots.now c.in-Some.number.now c.index-slots-number.result
    c.requires.kept.accounts there.0 c.index-slots-number.is

pub returns-in-Some-slot_in_way-clause-within : goal.returns-in-Some-slot_in_way-clause-within
returns-in-Some-slot_in_way-clause-within t c =
    bound_of c.args.journal.now c.args.slots.now c.in-Some-slot_in_way.way c.requires.kept.accounts
    c.in-Some-slot_in_way.ensures.within
