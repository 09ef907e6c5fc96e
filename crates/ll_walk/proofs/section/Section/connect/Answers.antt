use Rattle.std.proofs.Common.{◌≡◌, IfErr, subst}
use Rattle.ll_rights.specs.declared.errno.Errno.{Errno}
use Rattle.ll_rights.specs.declared.errno.Errno.TheVariants.{NoMemory}
use Rattle.ll_journal.specs.Book.{Book}
use Rattle.ll_laws.specs.World.{World, Joined, advance, next_number}
use Rattle.ll_laws.specs.declared.step.Step.TheVariants.{Join}
use Rattle.ll_walk.proofs.section.Section.connect.Goals as goal

pub returns-clause-starved : goal.returns-clause-starved
returns-clause-starved g c =
    subst (λ (b : Book). IfErr c.connect-client.result (λ (errno : Errno). errno ≡ NoMemory → (after : World)
    × (advance b.world Join ≡ (Joined (next_number b.world), after))))
    c.deref_mut.ensures.value c.connect-client.ensures.starved
