use Rattle.std.proofs.Common.{sym, subst, refl, get_or}
use Rattle.ll_learn.proofs.Columns.{IsPruned, pruned_more, pruned_same}
use Rattle.ll_learn.proofs.right_column.prune_in.Goals.{then-leave_out, else-leave_out}
use Rattle.ll_learn.proofs.right_column.prune_in.Goals as goal

pub loop-inode-preserved : goal.loop-inode-preserved
loop-inode-preserved c =
    let needs = c.args.needs.now in
    let right = c.args.right in
    let first = c.args.held.now.items in
    let now = c.loop-inode.held.items in
    let new = c.leave_out.new.held.items in
    let i = get_or c.args.order.now c.loop-inode.inode-index 0 in
    elim c.if-leave_out.branch [
      | then-leave_out w ↦ subst (IsPruned needs right first new) (sym w.changed-is)
          (pruned_more needs right first now new c.loop-inode.changed i c.loop-inode.invariant
          (w.if-leave_out.ensures.out refl) (w.if-leave_out.ensures.less refl) (w.if-leave_out.ensures.met refl))
      | else-leave_out w ↦ pruned_same needs right first now new c.loop-inode.changed c.if-leave_out.changed
          c.loop-inode.invariant (w.if-leave_out.ensures.kept refl) w.changed-is
    ]
