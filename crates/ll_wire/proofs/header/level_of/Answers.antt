use Rattle.ll_wire.proofs.Headers.{level_finds}
use Rattle.ll_wire.proofs.header.level_of.Goals as goal

pub returns : goal.returns
returns c = level_finds c.args.token.now c.in_ok-number_of.field-0 c.new.result c.in_ok-number_of.ensures c.new.ensures
