use Rattle.std.proofs.Common.{subst}
use Rattle.ll_laws.specs.Walks.{AreValid}
use Rattle.ll_journal.specs.Book.{Book}
use Rattle.ll_walk.proofs.section.Section.by_law.Goals as goal

pub returns-clause-valid : goal.returns-clause-valid
returns-clause-valid g c = subst (λ (b : Book). AreValid b.world) c.deref.ensures c.by_law.ensures.valid
