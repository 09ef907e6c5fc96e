use Rattle.std.proofs.Common.{arith, rules}
use Rattle.ll_wire.proofs.Headers.{header_is}
use Rattle.ll_wire.proofs.header.header_of.Goals as goal

pub returns : goal.returns
returns c = header_is c.args.tokens.now _ c.in_ok-version_of.field-0 c.in_ok-nodes_of.field-0 (omega arith)
    (search rules) (search rules) c.in_ok-version_of.ensures c.in_ok-nodes_of.ensures
