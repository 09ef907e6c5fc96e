use Rattle.ll_check.proofs.Verdicts.{no_want}
use Rattle.ll_check.proofs.wanted.read_wanted.Goals as goal

pub returns-in-None : goal.returns-in-None
returns-in-None c =
    no_want c.args.text.now c.in_default.ensures (rw c.in_default-words.is at c.in_ok-words.ensures)
    (rw c.in-None.is at c.in_ok-reply.ensures)
