use Rattle.std.proofs.Common.{◌-◌, ap, arith}
use Rattle.ll_session.proofs.CallsRuns.{nobody_calls, somebody_calls}
use Rattle.ll_session.proofs.shared.Shared.reply_to.Goals as goal

pub returns-then-client-len-clause-answers : goal.returns-then-client-len-clause-answers
returns-then-client-len-clause-answers g c =
    nobody_calls g.N.Shape.limit c.args.before c.args.self.now.party c.args.made c.is_spelled.ensures
    (omega (arith, c.len.ensures, c.if-client-len.true))

pub returns-clause-answers : goal.returns-clause-answers
returns-clause-answers g c =
    somebody_calls g.N.Shape.limit c.args.before c.args.self.now.party c.args.made c.is_spelled.ensures
    (c.len-2.result - c.args.before) c.ask-reply.result c.placed.result c.ask-reply.new.self
    (omega (arith, c.len.ensures, c.if-client-len.false, c.requires)) c.ask-reply.ensures.asks
    (ap (λ n. n - c.args.before) c.len-2.ensures) c.placed.ensures
