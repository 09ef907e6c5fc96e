use Rattle.std.specs.Prelude.{is_some}
use Rattle.std.proofs.Common.{ap, subst, sym, ◌∙◌}
use Rattle.ll_seq.specs.Facts.{AreKept}
use Rattle.ll_seq.specs.declared.reply.Reply.TheVariants as reply
use Rattle.ll_seq.specs.Effect.{told}
use Rattle.ll_seq.specs.Near.{told_inodes}
use Rattle.ll_journal.proofs.ToldAnswers.{lent_told}
use Rattle.ll_journal.proofs.decide_end.tell.Goals as goal

pub returns-in-Status-clause-told : goal.returns-in-Status-clause-told
returns-in-Status-clause-told c s marks spares slots table lent any some =
    let known = lent_told s spares c.args.table.now table marks slots c.args.lent.now lent (told_inodes c.args.answer)
    c.in-Status.inode (ap told_inodes c.in-Status.is) any some in
    ap reply.Found (c.status_of.ensures s (subst (AreKept s) (sym c.facts.ensures) table.facts)
    (c.size_of_lent-size.ensures s known.0) (λ none. absurd (cc (sym known.1 ∙ ap is_some none))))
    ∙ sym (ap (told s) c.in-Status.is)

pub returns-in_ok-names_of_lent-in-Names-clause-told :
    goal.returns-in_ok-names_of_lent-in-Names-clause-told
returns-in_ok-names_of_lent-in-Names-clause-told c s marks spares slots table lent any some =
    let known = lent_told s spares c.args.table.now table marks slots c.args.lent.now lent (told_inodes c.args.answer)
    c.in-Names.inode (ap told_inodes c.in-Names.is) any some in
    ap reply.Listed (c.in_ok-names_of_lent-in-Names.ensures s known.0) ∙ sym (ap (told s) c.in-Names.is)
