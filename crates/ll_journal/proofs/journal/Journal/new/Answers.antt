use Rattle.std.proofs.Common.{◌≤◌, ap, refl, sym, subst}
use Rattle.ll_rights.specs.declared.limits.TheConstants.{HISTORY_ENTRIES}
use Rattle.ll_seq.specs.History.{Log}
use Rattle.ll_journal.proofs.Opened.{kept}
use Rattle.ll_journal.proofs.journal.Journal.new.Goals as goal

pub invariant_of-result : goal.invariant_of-result
invariant_of-result c = kept _ (ap (λ (log : Log). log.entries) c.in_ok-new.ensures) c.in_ok-with_capacity.ensures.items
    refl (subst (λ (log : Log). log.limit ≤ HISTORY_ENTRIES) (sym c.in_ok-new.ensures) c.requires.entries)
    c.in_ok-new-2.ensures.table
