use Rattle.std.proofs.Common.{ap, subst}
use Rattle.std.proofs.lemmas.Result.{on_ok_weaker, on_err_weaker}
use Rattle.ll_wire.specs.LineCuts.{CanGoOn, Reading, TellsFront, TellsOn}
use Rattle.ll_wire.proofs.Advance.{on_err}
use Rattle.ll_wire.proofs.ToldParts.{front_of, line_front, line_written, owes_less_then}
use Rattle.ll_wire.proofs.exchange.Exchange.reply.Goals as goal
use Rattle.ll_wire.proofs.exchange.Exchange.reply.Goals.{In_ok-write_kept}

pub returns-in_err-write_kept-clause-front : goal.returns-in_err-write_kept-clause-front
returns-in_err-write_kept-clause-front g c =
    let d = g.E.Ends.devices in
    let front = subst (λ (r : Reading). TellsFront r (d c.args.ends.now) (d c.write_kept.new.ends))
    (c.gather.ensures.no c.if-gather.false) c.in_err-write_kept.ensures.front in
    on_err c.from_residual.result
    (λ first text told. front_of first (d c.write_kept.new.ends).contents text c.args.line.now
    (front first text told))

pub returns-clause-ready : goal.returns-clause-ready
returns-clause-ready g c =
    let d = g.E.Ends.devices in
    let can = subst (λ (r : Reading). CanGoOn 1 r (d c.args.ends.now) → CanGoOn 1 c.write_kept.new.self
    (d c.write_kept.new.ends)) (c.gather.ensures.no c.if-gather.false) (c.in_ok-write_kept.ensures.ready 1) in
    on_ok_weaker c.write_through.result (λ took. owes_less_then c.write_kept.new.self (d c.write_kept.new.ends)
    (d c.write_through.new.ends) c.args.line.now (ap (λ r. r.waiting) c.in_ok-write_kept.ensures.none)
    c.requires.line (can c.requires.ready) took) c.write_through.ensures.took

pub returns-clause-tells : goal.returns-clause-tells
returns-clause-tells g c =
    let d = g.E.Ends.devices in
    let tells = subst (λ (r : Reading). TellsOn r c.write_kept.new.self (d c.args.ends.now)
    (d c.write_kept.new.ends)) (c.gather.ensures.no c.if-gather.false) c.in_ok-write_kept.ensures.tells in
    on_ok_weaker c.write_through.result (λ wrote first text told. line_written c.args.self.now.waiting
    c.write_kept.new.self.waiting (d c.args.ends.now).contents (d c.write_kept.new.ends).contents
    (d c.write_through.new.ends).contents c.args.line.now (ap (λ r. r.waiting) c.in_ok-write_kept.ensures.none) tells
    first text told wrote) c.write_through.ensures.ok

pub returns-clause-front : goal.returns-clause-front
returns-clause-front g c =
    let d = g.E.Ends.devices in
    let tells = subst (λ (r : Reading). TellsOn r c.write_kept.new.self (d c.args.ends.now)
    (d c.write_kept.new.ends)) (c.gather.ensures.no c.if-gather.false) c.in_ok-write_kept.ensures.tells in
    on_err_weaker c.write_through.result (λ wrote first text told. line_front c.args.self.now.waiting
    c.write_kept.new.self.waiting (d c.args.ends.now).contents (d c.write_kept.new.ends).contents
    (d c.write_through.new.ends).contents c.args.line.now (ap (λ r. r.waiting) c.in_ok-write_kept.ensures.none) tells
    first text told wrote) c.write_through.ensures.err
