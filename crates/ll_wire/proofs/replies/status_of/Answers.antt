use Rattle.std.proofs.Common.{arith}
use Rattle.ll_wire.proofs.ReadReplies.{four, found}
use Rattle.ll_wire.proofs.replies.status_of.Goals as goal

pub returns : goal.returns
returns c = found _ _ _ _ _ _ (four c.args.args.now _ (omega arith)) c.in_ok-number_of.ensures
    c.in_ok-parse.ensures.found c.in_ok-number_of-2.ensures c.in_ok-number_of-3.ensures
