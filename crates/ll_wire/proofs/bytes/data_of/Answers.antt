use Rattle.std.proofs.Common.{arith, rules}
use Rattle.ll_wire.proofs.Digits.{read_again}
use Rattle.ll_wire.proofs.bytes.data_of.Goals as goal

pub unreachable-requires : goal.unreachable-requires
unreachable-requires c =
    let spelled = c.if-not-spells_data.ensures in
    let same = read_again c.args.token.now spelled.0 c.in-Ok.bytes.items spelled.1 (search rules) c.in-Ok.ensures.ok in
    omega (arith, same.0.1, c.in-Err.ensures.err.0)

pub returns : goal.returns
returns c =
    let spelled = c.if-not-spells_data.ensures in
    let same = read_again c.args.token.now spelled.0 c.in-Ok.bytes.items spelled.1 (search rules) c.in-Ok.ensures.ok in
    rw c.in-Ok-new.ensures.ok.1 same
