use Rattle.std.proofs.Common.{ap}
use Rattle.ll_wire.proofs.ToldParts.{front_all, told_all}
use Rattle.ll_wire.proofs.exchange.Exchange.starve.Goals as goal

pub returns-in-Ok-clause-front : goal.returns-in-Ok-clause-front
returns-in-Ok-clause-front g c first text told =
    let d = g.E.Ends.devices in
    front_all (d c.write_kept.new.ends).contents first text
    (told_all c.args.self.now.waiting c.write_kept.new.self.waiting
    (d c.args.ends.now).contents (d c.write_kept.new.ends).contents (ap (λ r. r.waiting) c.in-Ok.ensures.none)
    c.in-Ok.ensures.tells first text told)
