use Rattle.ll_picture.proofs.Fronts.{less, on}
use Rattle.ll_picture.proofs.head.write_column.Goals as goal

pub returns : goal.returns
returns c = (
  _,
  on _ _ _ c.in_ok-line.ensures c.in_ok-begin_group.ensures,
  on _ _ _ (on _ _ _ c.in_ok-write_rising.ensures c.in_ok-end_group.ensures)
      (less _ _ _ c.in_ok-write_rising-2.ensures),
)
