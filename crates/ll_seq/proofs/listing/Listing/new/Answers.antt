use Rattle.std.proofs.Common.{sym, subst}
use Rattle.ll_seq.specs.Listed.{AreListed}
use Rattle.ll_seq.proofs.NameOrder.{none_listed}
use Rattle.ll_seq.proofs.listing.Listing.new.Goals as goal

pub invariant_of-result : goal.invariant_of-result
invariant_of-result c = subst AreListed (sym c.new.ensures.items) none_listed
