use Rattle.ll_decide.proofs.Bits.{holds-and}
use Rattle.ll_why.proofs.places.both.Goals as goal

pub returns-clause-rights : goal.returns-clause-rights
returns-clause-rights c right = holds-and c.args.rights.0 c.args.others.0 right
