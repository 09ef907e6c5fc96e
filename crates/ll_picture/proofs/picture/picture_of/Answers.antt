use Rattle.std.proofs.Common.{codes, length, sym, subst}
use Rattle.ll_picture.specs.Pictures.{IsPicture}
use Rattle.ll_picture.proofs.Fronts.{marks_on, on}
use Rattle.ll_picture.proofs.picture.picture_of.Goals as goal

pub returns : goal.returns
returns c =
    let behind = on _ _ _ c.in_ok-add-2.ensures c.in_ok-close.ensures.front in
    let head = c.in_ok-write_head.ensures in
    subst (IsPicture (length c.args.columns.now)) (sym c.into_text.ensures) (
      on (codes "<svg ") _ _ c.in_ok-head.ensures (on _ _ _ c.in_ok-add.ensures (on _ _ _ head.front behind)),
      marks_on _ _ _ head.marks behind,
      c.in_ok-close.ensures.ends,
    )
