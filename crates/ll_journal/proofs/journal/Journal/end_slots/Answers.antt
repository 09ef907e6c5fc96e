use Rattle.std.specs.Prelude.{ℕ, ◌||◌, ◌==◌, List}
use Rattle.std.specs.List.{AllByRecursion}
use Rattle.std.proofs.Common.{sym, subst}
use Rattle.ll_journal.specs.Book.{has_mark, inode_in}
use Rattle.ll_journal.specs.Needs.{IsBesides}
use Rattle.ll_journal.specs.WalkEnds.{AreEnough, IsNeeded}
use Rattle.ll_journal.proofs.EndSlots.{all_stood, all_with, enough_alone, enough_with}
use Rattle.ll_journal.proofs.GatheredSlots.{Gathers, gathers_slot}
use Rattle.ll_journal.proofs.journal.Journal.end_slots.Goals as goal

-- without another
stood_alone : (c : goal.In_default)
    → Gathers c.args.self.now c.stands_in-slots.result (λ inode. has_mark c.args.self.now.world inode c.args.client)
stood_alone c = let e = c.stands_in-slots.ensures in
    record { distinct = e.distinct; within = e.within; lent = e.marked }

pub returns-in_default-clause-enough : goal.returns-in_default-clause-enough
returns-in_default-clause-enough c = λ turned walk is fresh.
    enough_alone c.args.self.now c.args.client walk is c.stands_in-slots.result (stood_alone c)
    (subst (IsBesides c.args.self.now c.args.client walk) c.in_default.is
    (c.slot_at_ends.ensures.needed c.args.slot c.requires turned walk is fresh))

pub returns-in_default-clause-only : goal.returns-in_default-clause-only
returns-in_default-clause-only c =
    λ turned walk is fresh. all_stood c.args.self.now c.args.client walk is c.stands_in-slots.result (stood_alone c)

-- with another
stood_in : (c : goal.After-add)
    → Gathers c.args.self.now c.stands_in-slots.result (λ inode. has_mark c.args.self.now.world inode c.args.client)
stood_in c = let e = c.stands_in-slots.ensures in record { distinct = e.distinct; within = e.within; lent = e.marked }

gathered : (c : goal.After-add)
    → Gathers c.args.self.now c.add.new.self
    (λ inode. has_mark c.args.self.now.world inode c.args.client || (inode_in c.args.self.now c.in-Some.other == inode))
gathered c =
    subst (λ (slots : List ℕ). Gathers c.args.self.now slots
    (λ inode. has_mark c.args.self.now.world inode c.args.client
    || (inode_in c.args.self.now c.in-Some.other == inode))) (sym c.add.ensures.slots)
    (gathers_slot c.args.self.now c.stands_in-slots.result _ c.in-Some.other c.in-Some.ensures.within (stood_in c))

pub returns-clause-enough : goal.returns-clause-enough
returns-clause-enough c = λ turned walk is fresh.
    subst (AreEnough c.args.self.now c.args.client walk) (sym c.add.ensures.slots)
    (enough_with c.args.self.now c.args.client walk is c.stands_in-slots.result (stood_in c) c.in-Some.other
    c.in-Some.ensures.within
    (subst (IsBesides c.args.self.now c.args.client walk) c.in-Some.is
    (c.slot_at_ends.ensures.needed c.args.slot c.requires turned walk is fresh)))

pub returns-clause-only : goal.returns-clause-only
returns-clause-only c = λ turned walk is fresh.
    subst (AllByRecursion (IsNeeded c.args.self.now c.args.client walk)) (sym c.add.ensures.slots)
    (all_with c.args.self.now c.args.client walk is c.stands_in-slots.result (stood_in c) c.in-Some.other
    (subst (IsBesides c.args.self.now c.args.client walk) c.in-Some.is
    (c.slot_at_ends.ensures.needed c.args.slot c.requires turned walk is fresh)))

pub returns-clause-distinct : goal.returns-clause-distinct
returns-clause-distinct c = (gathered c).distinct

pub returns-clause-within : goal.returns-clause-within
returns-clause-within c = (gathered c).within
