use Rattle.std.proofs.Common.{refl}
use Rattle.ll_program.proofs.program.header_of.Goals as goal

pub returns-clause-header : goal.returns-clause-header
returns-clause-header c = refl
