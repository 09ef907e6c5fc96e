use Rattle.ll_laws.proofs.Growth.{steps_lead_on}
use Rattle.ll_laws.proofs.shared.steps_lead_on.Goals as goal

pub returns : goal.returns
returns c = steps_lead_on
