use Rattle.std.proofs.Common.{arith}
use Rattle.ll_decide.proofs.Sets.{holds_missing}
use Rattle.ll_why.proofs.grants.without.Goals as goal

pub returns-clause-rights : goal.returns-clause-rights
returns-clause-rights c right known =
    holds_missing c.args.rights.0 c.args.others.0 right (omega arith) known
