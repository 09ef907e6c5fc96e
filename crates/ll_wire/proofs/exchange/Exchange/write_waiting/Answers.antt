use Rattle.std.proofs.Common.{ap, subst, ◌∙◌}
use Rattle.std.specs.Io.KnownBytes.{Appends}
use Rattle.ll_wire.specs.WriterGains.{AppendsFront}
use Rattle.ll_wire.proofs.ToldParts.{told_front, told_written}
use Rattle.ll_wire.proofs.exchange.Exchange.write_waiting.Goals as goal

pub returns-in-Ok-clause-tells : goal.returns-in-Ok-clause-tells
returns-in-Ok-clause-tells g c =
    let d = g.E.Ends.devices in
    let old = (d c.args.ends.now).contents in
    let new = (d c.write_out.new.ends).contents in
    told_written c.args.self.now.waiting c.clear.new.self.items old new c.clear.ensures.items
    (subst (Appends old new) (c.deref.ensures.value ∙ ap (λ r. r.waiting) c.self.view_is) c.in-Ok.ensures.ok)

pub returns-in-Err-clause-front : goal.returns-in-Err-clause-front
returns-in-Err-clause-front g c =
    let d = g.E.Ends.devices in
    let old = (d c.args.ends.now).contents in
    let new = (d c.write_out.new.ends).contents in
    told_front c.args.self.now.waiting old new
    (subst (AppendsFront old new) (c.deref.ensures.value ∙ ap (λ r. r.waiting) c.self.view_is) c.in-Err.ensures.err)
