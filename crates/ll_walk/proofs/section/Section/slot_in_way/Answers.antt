use Rattle.std.proofs.Common.{IfNone, subst}
use Rattle.ll_journal.specs.Book.{Book}
use Rattle.ll_journal.specs.InWay.{IsFreeFrom}
use Rattle.ll_walk.proofs.section.Section.slot_in_way.Goals as goal

pub returns-clause-none : goal.returns-clause-none
returns-clause-none g c =
    subst (λ (b : Book). IfNone c.slot_in_way-way.result (IsFreeFrom b c.args.me.now.number c.args.here.now.number))
    c.deref_mut.ensures.value c.slot_in_way-way.ensures.none
