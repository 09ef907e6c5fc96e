use Rattle.ll_check.proofs.SectionNames.{no_names}
use Rattle.ll_check.proofs.check_text.ReadLines.at_start.Goals as goal

pub returns-clause-none : goal.returns-clause-none
returns-clause-none c = λ name. no_names c.new-names.result name c.new-names.ensures.empty
