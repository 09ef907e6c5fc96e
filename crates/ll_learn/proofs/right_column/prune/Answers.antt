use Rattle.std.proofs.Common.{ap, refl, arith}
use Rattle.ll_learn.specs.Columns.{held_count}
use Rattle.ll_learn.proofs.Columns.{falls}
use Rattle.ll_learn.proofs.right_column.prune.Goals as goal

pub loop-again-smaller : goal.loop-again-smaller
loop-again-smaller c =
    let same = ap held_count (c.if-early.ensures.kept refl) in
    falls (held_count c.loop-again.held.items) (held_count c.prune_all-again.new.held.items) c.loop-again.again
    c.prune_all-again.result c.loop-again-test.true
    (λ on. let lt = c.prune_all-again.ensures.less on in omega arith)
    (λ off. let e = ap held_count (c.prune_all-again.ensures.kept off) in omega arith)
