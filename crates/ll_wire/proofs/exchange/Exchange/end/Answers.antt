use Rattle.std.proofs.Common.{ap}
use Rattle.ll_wire.proofs.ToldParts.{ok_both, told_all}
use Rattle.ll_wire.proofs.exchange.Exchange.end.Goals as goal

pub returns-clause-tells : goal.returns-clause-tells
returns-clause-tells g c =
    let d = g.E.Ends.devices in
    ok_both c.flush.result (λ none tells. told_all c.args.self.now.waiting c.flush.new.self.waiting
    (d c.args.ends.now).contents (d c.flush.new.ends).contents (ap (λ r. r.waiting) none) tells)
    c.flush.ensures.none c.flush.ensures.tells
