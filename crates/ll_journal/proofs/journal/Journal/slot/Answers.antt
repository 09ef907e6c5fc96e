use Rattle.std.specs.Prelude.{◌≡◌, ◌≢◌, ◌<◌, length, None, IfNone, IfSome}
use Rattle.std.proofs.Common.{subst}
use Rattle.ll_seq.specs.State.{kind_of}
use Rattle.ll_laws.specs.World.{shown}
use Rattle.ll_journal.specs.Book.{Book, inode_in}
use Rattle.ll_journal.proofs.Markers.{slot_lies, slot_living}
use Rattle.ll_journal.proofs.StandingWalks.{is_placed}
use Rattle.ll_journal.proofs.journal.Journal.slot.Goals as goal

pub returns-clause-lies : goal.returns-clause-lies
returns-clause-lies c =
    subst (λ (b : Book). IfSome c.slot.result (λ slot. (c.args.inode ≢ 0) × (inode_in b slot ≡ c.args.inode)))
    c.self.view_is (slot_lies c.self.inside c.self.invariant c.args.inode c.slot.result c.slot.ensures)

pub returns-clause-within : goal.returns-clause-within
returns-clause-within c =
    subst (λ (b : Book). IfSome c.slot.result (λ slot. slot < length b.inodes)) c.self.view_is
    (is_placed c.self.inside c.self.invariant c.args.inode c.slot.result c.slot.ensures).within

pub returns-clause-none : goal.returns-clause-none
returns-clause-none c =
    subst (λ (b : Book). IfNone c.slot.result (kind_of (shown b.world) c.args.inode ≡ None)) c.self.view_is
    (slot_living c.self.inside c.self.invariant c.args.inode c.slot.result c.slot.ensures)
