use Rattle.std.proofs.Common.{take, sym, ◌∙◌}
use Rattle.std.specs.Prelude.{Some}
use Rattle.ll_learn.specs.Draft.{last_of, may_have}
use Rattle.std.specs.Prelude.{slice_index}
use Rattle.std.proofs.lemmas.Bool.{cond-true, cond-false}
use Rattle.ll_learn.proofs.Places.{last_more}
use Rattle.ll_learn.proofs.draft.Scope.last_of.Goals.{then-may_have, else-may_have}
use Rattle.ll_learn.proofs.draft.Scope.last_of.Goals as goal

pub loop-inode-preserved : goal.loop-inode-preserved
loop-inode-preserved c =
    let may = may_have c.args.self.now c.args.right in
    let inodes = c.args.inodes.now in
    let i = c.loop-inode.inode-index in
    let inode = slice_index inodes i in
    let more = last_more may inodes i c.loop-inode-test.true in
    elim c.if-may_have.branch [
      | then-may_have w ↦ w.last-is ∙ sym (more ∙ cond-true (may inode) (Some inode) (last_of may (take i inodes))
          (sym w.if-may_have.ensures))
      | else-may_have w ↦ w.last-is ∙ c.loop-inode.invariant ∙ sym (more ∙ cond-false (may inode) (Some inode)
          (last_of may (take i inodes)) (sym w.if-may_have.ensures))
    ]
