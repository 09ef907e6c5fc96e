use Rattle.std.proofs.Common.{arith}
use Rattle.ll_decide.proofs.Sets.{holds_missing}
use Rattle.ll_learn.proofs.learned.Aim.held.Goals as goal

pub returns : goal.returns
returns c right known =
    holds_missing c.args.self.now.handled.0 c.args.self.now.never.0 right (omega arith) known
