use Rattle.std.proofs.Common.{rules, length, ◌<◌}
use Rattle.ll_steps.proofs.LentContents.{at_index, bound_of, some_bound}
use Rattle.ll_steps.proofs.ReasonsFound.{nowhere_or}
use Rattle.ll_steps.proofs.reason.slot_below.Goals as goal

pub bounds-slots-from : goal.bounds-slots-from
bounds-slots-from c =
    bound_of c.args.journal.now c.args.slots.now c.in-Some.from c.requires.accounts c.in-Some.ensures.within

pub offset_bounds-slots-from : goal.offset_bounds-slots-from
offset_bounds-slots-from c =
    let within : c.in-Some.from < length c.args.slots.now =
    bound_of c.args.journal.now c.args.slots.now c.in-Some.from c.requires.accounts c.in-Some.ensures.within in
    search rules

pub next_slot-requires : goal.next_slot-requires
next_slot-requires c = at_index c.args.journal.now c.args.slots.now c.in-Some.from c.index-slots-from.result
    c.requires.accounts c.in-Some.ensures.within c.index-slots-from.is

pub returns-clause-within : goal.returns-clause-within
returns-clause-within c = some_bound c.args.journal.now c.args.slots.now c.next_slot.result c.requires.accounts
    c.next_slot.ensures.within

pub returns-clause-none : goal.returns-clause-none
returns-clause-none c =
    nowhere_or c.args.journal.now c.args.client c.in-Some.from c.next_slot.result c.in-Some.ensures.some
    c.next_slot.ensures.none
