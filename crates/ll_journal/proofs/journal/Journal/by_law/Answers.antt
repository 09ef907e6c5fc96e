use Rattle.std.proofs.Common.{subst}
use Rattle.ll_laws.specs.Sound.{IsSound}
use Rattle.ll_journal.specs.Book.{Book}
use Rattle.ll_journal.specs.SlotTree.{HoldTree, accounts_of}
use Rattle.ll_journal.proofs.SlotTrees.{hold_tree}
use Rattle.ll_journal.proofs.journal.Journal.by_law.Goals as goal

pub returns : goal.returns
returns c = record {
  tree =
      subst (λ (b : Book). HoldTree (accounts_of b) b.world) c.self.view_is (hold_tree c.self.inside c.self.invariant);
  sound = subst (λ (b : Book). IsSound b.world) c.self.view_is c.self.invariant.sound;
}
