use Rattle.ll_check.proofs.OutcomeTexts.{no_outcome}
use Rattle.ll_check.proofs.outcomes.read_outcome.Goals as goal

pub returns-in-None : goal.returns-in-None
returns-in-None c =
    no_outcome c.args.text.now c.in_default.ensures c.in_default-numbered_outcome.ensures
    (rw c.in-None.is at c.in_ok-wanted.ensures)
