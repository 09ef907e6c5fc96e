use Rattle.ll_check.proofs.TreeAnswers.{answers_fit, none_comes}
use Rattle.ll_check.proofs.possible.answers_fit.Goals as goal

pub returns-clause-fit : goal.returns-clause-fit
returns-clause-fit c = answers_fit

pub returns-clause-never : goal.returns-clause-never
returns-clause-never c = none_comes
