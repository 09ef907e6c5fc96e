use Rattle.ll_check.proofs.Verdicts.{no_place}
use Rattle.ll_check.proofs.wanted.denied_at.Goals as goal

pub returns-in-None : goal.returns-in-None
returns-in-None c =
    no_place c.args.text.now c.in_default.ensures c.in_default-right_before.ensures c.in-None.ensures
