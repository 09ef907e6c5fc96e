use Rattle.std.proofs.Common.{arith, subst, sym}
use Rattle.ll_seq.specs.declared.reply.Reply.{Reply}
use Rattle.ll_session.specs.CallsRun.{call_line}
use Rattle.ll_session.specs.Session.{Answers}
use Rattle.ll_session.proofs.CallsRuns.{spelled}
use Rattle.ll_embed.specs.Alone.{own}
use Rattle.ll_embed.proofs.Owned.{answered_by}
use Rattle.ll_embed.proofs.Makings.{nobody_calls}
use Rattle.ll_embed.proofs.own_tree.OwnTree.reply_to.Goals as goal

pub returns-then-client-self-clause-answers : goal.returns-then-client-self-clause-answers
returns-then-client-self-clause-answers c =
    nobody_calls c.args.self.now.plain c.args.self.now.history c.args.self.now.before c.args.self.now.clients
    c.args.made c.is_spelled.ensures c.if-client-self.true

pub returns-in-Ok-clause-answers : goal.returns-in-Ok-clause-answers
returns-in-Ok-clause-answers c =
    let old = c.args.self.now in
    let new = c.call.new.self in
    subst (λ (r : Reply). Answers (own old) (call_line c.args.made) r (own new)) (sym c.placed.ensures)
    (answered_by old.plain new.plain old.history new.history old.before old.clients new.clients c.args.made.client
    (call_line c.args.made) c.args.made.call c.in-Ok.reply (spelled c.args.made c.is_spelled.ensures)
    (omega (arith, c.if-client-self.false)) new.before c.in-Ok.ensures.ok)
