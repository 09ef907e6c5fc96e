use Rattle.ll_picture.proofs.Fronts.{pieces_on}
use Rattle.ll_picture.proofs.canvas.Canvas.write_rising.Goals as goal

pub returns : goal.returns
returns c =
    pieces_on _ _ _ _ _ _ _ _ _ c.in_ok-push_str.ensures.bytes c.in_ok-push_str-2.ensures.bytes
    c.in_ok-push_str-3.ensures.bytes c.in_ok-push_str-4.ensures.bytes
