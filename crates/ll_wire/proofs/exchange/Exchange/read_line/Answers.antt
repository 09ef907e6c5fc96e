use Rattle.ll_wire.proofs.Advance.{on_err}
use Rattle.ll_wire.proofs.ToldParts.{kept_front, on_ok, told_kept}
use Rattle.ll_wire.proofs.exchange.Exchange.read_line.Goals as goal

pub returns-clause-tells : goal.returns-clause-tells
returns-clause-tells g c =
    let d = g.E.Ends.devices in
    on_ok c.cut_line.result (λ first text told. told_kept c.fall_silent.new.self.waiting c.cut_line.new.self.waiting
    (d c.fall_silent.new.ends).contents (d c.cut_line.new.ends).contents c.cut_line.ensures.waiting
    c.cut_line.ensures.contents first text (c.in_ok-fall_silent.ensures.tells first text told))

pub returns-clause-front : goal.returns-clause-front
returns-clause-front g c =
    let d = g.E.Ends.devices in
    on_err c.cut_line.result (λ first text told. kept_front c.fall_silent.new.self.waiting
    (d c.fall_silent.new.ends).contents (d c.cut_line.new.ends).contents c.cut_line.ensures.contents first text
    (c.in_ok-fall_silent.ensures.tells first text told))
