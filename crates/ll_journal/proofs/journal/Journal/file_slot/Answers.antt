use Rattle.std.specs.Prelude.{◌≡◌, ◌<◌, length, IfSome, IfNone}
use Rattle.std.proofs.Common.{sym, subst, ◌∙◌}
use Rattle.ll_seq.specs.declared.client.Descriptor.{Descriptor}
use Rattle.ll_journal.specs.Book.{Book, inode_in}
use Rattle.ll_journal.specs.Direct.{IsOpen}
use Rattle.ll_journal.proofs.Starts.{at_place}
use Rattle.ll_journal.proofs.CalledFiles.{slot_there, slot_none}
use Rattle.ll_journal.proofs.StandingWalks.{is_placed}
use Rattle.ll_journal.proofs.journal.Journal.file_slot.Goals as goal

pub returns-clause-some : goal.returns-clause-some
returns-clause-some c =
    let at = at_place c.self.inside.seats.items c.deref.result.now c.args.client c.in-Some.place c.index.result.now
    c.deref.ensures.value c.in-Some.ensures.some c.index.ensures in
    subst (λ (b : Book). IfSome c.slot.result (λ slot. (file : Descriptor)
    × IsOpen b.world c.args.client c.args.number file × (inode_in b slot ≡ file.inode))) c.self.view_is
    (slot_there c.self.inside c.self.invariant c.args.client c.in-Some.place c.index.result.now at
    c.in-Some.ensures.some.0 c.args.number c.in-Some-opened.file (sym c.opened.ensures ∙ c.in-Some-opened.is)
    c.slot.result c.slot.ensures)

pub returns-clause-none : goal.returns-clause-none
returns-clause-none c =
    let at = at_place c.self.inside.seats.items c.deref.result.now c.args.client c.in-Some.place c.index.result.now
    c.deref.ensures.value c.in-Some.ensures.some c.index.ensures in
    subst (λ (b : Book). IfNone c.slot.result ((file : Descriptor) → IsOpen b.world c.args.client c.args.number file
    → ⊥)) c.self.view_is
    (slot_none c.self.inside c.self.invariant c.args.client c.in-Some.place c.index.result.now at
    c.in-Some.ensures.some.0 c.args.number c.in-Some-opened.file (sym c.opened.ensures ∙ c.in-Some-opened.is)
    c.slot.result c.slot.ensures)

pub returns-clause-within : goal.returns-clause-within
returns-clause-within c =
    subst (λ (b : Book). IfSome c.slot.result (λ slot. slot < length b.inodes)) c.self.view_is
    (is_placed c.self.inside c.self.invariant c.in-Some-opened.file.inode c.slot.result c.slot.ensures).within
