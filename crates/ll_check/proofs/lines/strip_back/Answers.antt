use Rattle.ll_check.proofs.Fronts.{back_found, back_none}
use Rattle.ll_check.proofs.lines.strip_back.Goals as goal

pub returns-clause-found : goal.returns-clause-found
returns-clause-found c =
    back_found _ c.strip_suffix.result c.args.back.now c.args.text.now c.strip_suffix.ensures.cases

pub returns-clause-none : goal.returns-clause-none
returns-clause-none c =
    back_none _ c.strip_suffix.result c.args.back.now c.args.text.now c.strip_suffix.ensures.cases
