use Rattle.std.proofs.Common.{◌≡◌, arith, string_bytes}
use Rattle.std.proofs.lemmas.Grind.{common_steps}
use Rattle.ll_wire.specs.Terminal.{escaped}
use Rattle.ll_wire.proofs.Printed.{printed_as}
use Rattle.ll_wire.proofs.terminal.escaped.Goals as goal

pub returns-clause-printed : goal.returns-clause-printed
returns-clause-printed c =
    let text = c.args.text.now in
    let told = string_bytes c.loop-byte.told in
    let whole : told ≡ escaped text = grind (arith, common_steps) in
    printed_as text told whole
