use Rattle.ll_check.proofs.Fronts.{front_found, front_none}
use Rattle.ll_check.proofs.lines.strip_front.Goals as goal

pub returns-clause-found : goal.returns-clause-found
returns-clause-found c =
    front_found _ c.strip_prefix.result c.args.front.now c.args.text.now c.strip_prefix.ensures.cases

pub returns-clause-none : goal.returns-clause-none
returns-clause-none c =
    front_none _ c.strip_prefix.result c.args.front.now c.args.text.now c.strip_prefix.ensures.cases
