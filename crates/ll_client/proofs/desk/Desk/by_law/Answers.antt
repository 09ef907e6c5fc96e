use Rattle.std.proofs.Common.{◌≡◌, ◌≤◌, length, subst}
use Rattle.ll_seq.specs.History.{IsLegal}
use Rattle.ll_seq.specs.State.{start}
use Rattle.ll_laws.specs.Walks.{AreApart, AreFew, AreValid, GateIsHeld}
use Rattle.ll_journal.specs.Book.{Book}
use Rattle.ll_journal.specs.SlotTree.{HoldTree, accounts_of}
use Rattle.ll_client.specs.Entries.{AreInOrder}
use Rattle.ll_client.proofs.desk.Desk.by_law.Goals as goal

pub returns-clause-legal : goal.returns-clause-legal
returns-clause-legal g c =
    subst (λ (b : Book). IsLegal (start b.world.rules b.world.room) b.world.history) c.self.view_is
    c.self.invariant.sound.legal

pub returns-clause-numbered : goal.returns-clause-numbered
returns-clause-numbered g c =
    subst (λ (b : Book). AreInOrder b.world.rules b.world.room b.world.history) c.self.view_is c.self.invariant.numbered

pub returns-clause-within : goal.returns-clause-within
returns-clause-within g c =
    subst (λ (b : Book). length b.world.history ≤ b.world.limit) c.self.view_is c.self.invariant.within

pub returns-clause-valid : goal.returns-clause-valid
returns-clause-valid g c = subst (λ (b : Book). AreValid b.world) c.self.view_is c.self.invariant.sound.valid

pub returns-clause-apart : goal.returns-clause-apart
returns-clause-apart g c = subst (λ (b : Book). AreApart b.world) c.self.view_is c.self.invariant.sound.apart

pub returns-clause-few : goal.returns-clause-few
returns-clause-few g c = subst (λ (b : Book). AreFew b.world) c.self.view_is c.self.invariant.sound.few

pub returns-clause-gate : goal.returns-clause-gate
returns-clause-gate g c = subst (λ (b : Book). GateIsHeld b.world) c.self.view_is c.self.invariant.sound.gate

pub returns-clause-slots : goal.returns-clause-slots
returns-clause-slots g c = subst (λ (b : Book). length b.inodes ≡ _) c.self.view_is c.self.invariant.slots_are

pub returns-clause-tree : goal.returns-clause-tree
returns-clause-tree g c =
    subst (λ (b : Book). HoldTree (accounts_of b) b.world) c.self.view_is c.by_law.ensures.tree
