use Rattle.std.specs.Prelude.{◌≡◌, ◌<◌, length, Some}
use Rattle.std.proofs.Common.{sym, subst, ◌∙◌}
use Rattle.ll_seq.specs.State.{root}
use Rattle.ll_journal.specs.Book.{Book, inode_in}
use Rattle.ll_journal.proofs.StandingWalks.{is_placed, root_placed}
use Rattle.ll_journal.proofs.journal.Journal.root_slot.Goals as goal

pub unreachable-requires : goal.unreachable-requires
unreachable-requires c = root_placed c.self.inside c.self.invariant (sym c.slot.ensures ∙ c.in_default.is)

pub returns-clause-root : goal.returns-clause-root
returns-clause-root c =
    subst (λ (b : Book). inode_in b c.in-Some.slot ≡ root) c.self.view_is
    (is_placed c.self.inside c.self.invariant root (Some c.in-Some.slot) (sym c.in-Some.is ∙ c.slot.ensures)).lies

pub returns-clause-within : goal.returns-clause-within
returns-clause-within c =
    subst (λ (b : Book). c.in-Some.slot < length b.inodes) c.self.view_is
    (is_placed c.self.inside c.self.invariant root (Some c.in-Some.slot) (sym c.in-Some.is ∙ c.slot.ensures)).within
