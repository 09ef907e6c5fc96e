use Rattle.std.proofs.Common.{inr, refl}
use Rattle.ll_wire.proofs.Targets.{some_target}
use Rattle.ll_wire.proofs.read.target_by.Goals as goal

pub returns-in_default : goal.returns-in_default
returns-in_default c = let target = some_target c.args.text.now in
    inr (refl, target.0, (c.requires, target.1), tt)
