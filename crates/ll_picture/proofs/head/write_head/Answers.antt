use Rattle.std.proofs.Common.{◌≡◌, ℕ, ◌+◌, suc, subst, string_bytes, arith}
use Rattle.ll_picture.specs.Pictures.{HasMarks}
use Rattle.ll_picture.proofs.Fronts.{less, on, one_more}
use Rattle.ll_picture.proofs.head.write_head.Goals as goal

pub loop-column-preserved : goal.loop-column-preserved
loop-column-preserved c =
    let i = c.loop-column.column-index in
    let next : suc i ≡ i + 1 = omega arith in
    let h = c.loop-column.invariant in
    let w = c.in_ok-write_column.ensures in (
      on _ _ _ h.0 (on _ _ _ w.1 (less _ _ _ w.2)),
      subst (λ (n : ℕ). HasMarks n (string_bytes c.write_column.new.canvas.text)) next
          (one_more i _ w.0 _ h.1 w.1 w.2),
    )
