use Rattle.std.proofs.Common.{ap, sym, ◌∙◌}
use Rattle.std.proofs.lemmas.Bool.{both_ways}
use Rattle.ll_learn.specs.Columns.{is_at}
use Rattle.ll_learn.specs.Draft.{is_met, without}
use Rattle.ll_learn.proofs.right_column.leave_out.Goals.{then-not-is_held-via-then-not-is_held}
use Rattle.ll_learn.proofs.right_column.leave_out.Goals.{then-not-is_held-via-else-not-is_held+then-not-is_met_without}
use Rattle.ll_learn.proofs.right_column.leave_out.Goals as goal

pub returns-then-not-is_held-clause-needed : goal.returns-then-not-is_held-clause-needed
returns-then-not-is_held-clause-needed c off at =
    let inode = c.args.inode in
    elim c.then-not-is_held.branch [
      | then-not-is_held-via-then-not-is_held w ↦ absurd (both_ways (is_at c.args.held.now.items inode)
          (ap (λ hs. is_at hs inode) (sym c.deref.ensures.value) ∙ sym w.if-not-is_held.ensures) at)
      | then-not-is_held-via-else-not-is_held+then-not-is_met_without w ↦
          ap (λ hs. is_met (without inode (is_at hs)) c.args.right c.args.needs.now)
          (sym w.deref-else-not-is_held.ensures.value) ∙ sym w.if-not-is_met_without.ensures
    ]

pub returns-clause-met : goal.returns-clause-met
returns-clause-met c on =
    ap (λ hs. is_met (without c.args.inode (is_at hs)) c.args.right c.args.needs.now)
    (sym c.deref-else-not-is_held.ensures.value) ∙ sym c.if-not-is_met_without.ensures
