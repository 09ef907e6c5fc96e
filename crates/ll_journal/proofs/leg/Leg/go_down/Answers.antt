use Rattle.ll_decide.proofs.Carried.{length-masks}
use Rattle.ll_journal.proofs.leg.Leg.go_down.Goals as goal

pub down-requires : goal.down-requires
down-requires c = length-masks _ _ _ c.requires.masks
