use Rattle.std.proofs.Common.{arith, rules}
use Rattle.std.proofs.lemmas.Grind.{common_steps}
use Rattle.ll_wire.proofs.Headers.{told}
use Rattle.ll_wire.proofs.header.version_of.Goals as goal

pub returns-then-eq : goal.returns-then-eq
returns-then-eq c = (tt, search rules, grind (arith, common_steps))

pub returns-in-text : goal.returns-in-text
returns-in-text c =
    let level = c.in_ok-abi.ensures in
    ((level.0, level.1), c.in-text.is, told c.args.level.now _ c.in_ok-abi.abi (omega arith) (search rules) level)

pub returns-in-text-2 : goal.returns-in-text-2
returns-in-text-2 c =
    let level = c.in_ok-abi.ensures in
    ((level.0, level.1), c.in-text-2.is, told c.args.level.now _ c.in_ok-abi.abi (omega arith) (search rules) level)
