use Rattle.std.proofs.Common.{refl, subst, List, ℕ}
use Rattle.std.specs.List.{AllByRecursion}
use Rattle.std.specs.Prelude.{IfNone}
use Rattle.ll_journal.specs.InWay.{IsFreeFrom}
use Rattle.ll_steps.proofs.LentContents.{bounds_again}
use Rattle.ll_steps.proofs.NamesMarked.{free_or}
use Rattle.ll_steps.proofs.reason.way_of.Goals as goal

pub first_in_way-requires-clause-there : goal.first_in_way-requires-clause-there
first_in_way-requires-clause-there c =
    bounds_again c.args.journal.now c.args.slots.now c.args.slots.now c.stands_in-stands.result c.as_slice.result.now
    c.requires.accounts refl c.as_slice.ensures c.stands_in-stands.ensures.within

pub returns-clause-none : goal.returns-clause-none
returns-clause-none c =
    free_or c.args.journal.now c.args.client c.stands_in-stands.result c.first_in_way.result
    c.stands_in-stands.ensures.marked
    (subst (λ (ks : List ℕ). IfNone c.first_in_way.result (AllByRecursion (IsFreeFrom c.args.journal.now c.args.client)
    ks)) c.as_slice.ensures c.first_in_way.ensures.none)
