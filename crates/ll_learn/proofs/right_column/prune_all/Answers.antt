use Rattle.std.proofs.Common.{sym, ◌∙◌, subst, refl}
use Rattle.std.proofs.lemmas.Bool.{both_ways}
use Rattle.ll_learn.proofs.Columns.{IsPruned, needed_more, pruned_more, pruned_same}
use Rattle.ll_learn.proofs.right_column.prune_all.Goals.{then-leave_out, else-leave_out}
use Rattle.ll_learn.proofs.right_column.prune_all.Goals as goal

pub loop-inode-preserved : goal.loop-inode-preserved
loop-inode-preserved c =
    let needs = c.args.needs.now in
    let right = c.args.right in
    let first = c.args.held.now.items in
    let now = c.loop-inode.held.items in
    let new = c.leave_out.new.held.items in
    let i = c.loop-inode.inode in
    elim c.if-leave_out.branch [
      | then-leave_out w ↦ record {
        pruned = subst (IsPruned needs right first new) (sym w.changed-is)
            (pruned_more needs right first now new c.loop-inode.changed i c.loop-inode.invariant.pruned
            (w.if-leave_out.ensures.out refl) (w.if-leave_out.ensures.less refl) (w.if-leave_out.ensures.met refl));
        needed = λ off. absurd (both_ways c.if-leave_out.changed off w.changed-is);
      }
      | else-leave_out w ↦ record {
        pruned = pruned_same needs right first now new c.loop-inode.changed c.if-leave_out.changed
            c.loop-inode.invariant.pruned (w.if-leave_out.ensures.kept refl) w.changed-is;
        needed = λ off. needed_more needs right now new i (w.if-leave_out.ensures.kept refl)
            (c.loop-inode.invariant.needed (sym w.changed-is ∙ off)) (w.if-leave_out.ensures.needed refl);
      }
    ]
