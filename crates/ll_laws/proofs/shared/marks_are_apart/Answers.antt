use Rattle.ll_laws.proofs.Marks.{marks_are_apart}
use Rattle.ll_laws.proofs.shared.marks_are_apart.Goals as goal

pub returns : goal.returns
returns c = marks_are_apart
