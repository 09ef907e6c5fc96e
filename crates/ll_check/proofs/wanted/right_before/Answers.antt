use Rattle.ll_check.proofs.Verdicts.{right_ahead}
use Rattle.ll_check.proofs.wanted.right_before.Goals as goal

pub returns : goal.returns
returns c = right_ahead c.args.text.now c.in_ok-strip_back.field-0.now c.args.back.now c.right_of.result
    c.in_ok-strip_back.ensures.found c.right_of.ensures
