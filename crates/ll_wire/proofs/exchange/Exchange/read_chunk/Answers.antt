use Rattle.std.proofs.Common.{◌≡◌, length-take-le, rules, sym}
use Rattle.ll_wire.proofs.LeftToRead.{counts_read}
use Rattle.ll_wire.proofs.exchange.Exchange.read_chunk.Goals as goal

pub returns-in-Ok-clause-counted : goal.returns-in-Ok-clause-counted
returns-in-Ok-clause-counted g c rest is =
    let at : c.args.self.now.reads ≡ c.self.inside.reads = search rules in
    rw at (counts_read _ _ _ c.in-Ok.count c.self.inside.reads c.in-Ok.ensures.bytes.0
    (sym (length-take-le c.in-Ok.count c.read.new.buf (search rules))) (search rules) rest is)
