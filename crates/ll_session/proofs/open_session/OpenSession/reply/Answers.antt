use Rattle.std.proofs.Common.{arith, inl, refl, subst, sym}
use Rattle.ll_seq.specs.declared.reply.Reply.{Reply}
use Rattle.ll_session.specs.Beside.{AnswersBeside}
use Rattle.ll_session.specs.Talk.{asks, nowhere}
use Rattle.ll_session.proofs.Replies.{called_there, not_read, too_long, unread_goes}
use Rattle.ll_session.proofs.Scores.{called_ends, unread_ends}
use Rattle.ll_session.proofs.open_session.OpenSession.reply.Goals as goal

pub returns-in_default-clause-answers : goal.returns-in_default-clause-answers
returns-in_default-clause-answers g c piece held =
    too_long g.N.Shape.limit c.args.self.now.before c.args.self.now.party c.args.line.now piece held
    (sym c.in_default.ensures)

pub returns-in_default-clause-end : goal.returns-in_default-clause-end
returns-in_default-clause-end g c piece held = (refl, inl refl)

pub returns-in_default-clause-goes : goal.returns-in_default-clause-goes
returns-in_default-clause-goes g c = nowhere

pub overflow_add-caller : goal.overflow_add-caller
overflow_add-caller g c = omega (arith, c.clients.ensures.count, c.clients.ensures.fits, c.in-Ok.ensures.1)

pub returns-in-Ok-clause-answers : goal.returns-in-Ok-clause-answers
returns-in-Ok-clause-answers g c piece held =
    subst (λ (r : Reply). AnswersBeside g.N.Shape.limit c.args.self.now.before c.args.self.now.party piece r
    c.ask-reply.new.self) (sym c.placed-reply.ensures)
    (called_there g.N.Shape.limit c.args.self.now.before c.args.self.now.party c.args.line.now piece held
    c.in-Some.bytes.now c.clients.result (sym c.in-Some.ensures) c.clients.ensures.count c.in-Ok.place
    c.clients-in-Ok.result c.in-Ok.call c.ask-reply.result c.ask-reply.new.self c.in-Ok.ensures
    c.ask-reply.ensures.asks c.clients-in-Ok.ensures.count)

pub returns-in-Ok-clause-goes : goal.returns-in-Ok-clause-goes
returns-in-Ok-clause-goes g c =
    asks c.args.self.now.party c.ask-reply.new.self _ c.in-Ok.call c.ask-reply.result nowhere
    c.ask-reply.ensures.asks

pub returns-in-Err-clause-answers : goal.returns-in-Err-clause-answers
returns-in-Err-clause-answers g c piece held =
    not_read g.N.Shape.limit c.args.self.now.before c.args.self.now.party c.args.line.now piece held
    c.in-Some.bytes.now c.clients.result (sym c.in-Some.ensures) c.clients.ensures.count c.in-Err.errno
    c.unread.result c.unread.new.self.party c.in-Err.ensures c.unread.ensures.told

pub returns-in-Err-clause-end : goal.returns-in-Err-clause-end
returns-in-Err-clause-end g c piece held =
    unread_ends c.args.line.now c.in-Some.bytes.now piece held (sym c.in-Some.ensures) g.N.Shape.limit c.clients.result
    c.args.self.now.party c.unread.new.self.party c.in-Err.errno c.unread.result c.in-Err.ensures
    c.unread.ensures.told

pub returns-in-Err-clause-goes : goal.returns-in-Err-clause-goes
returns-in-Err-clause-goes g c =
    unread_goes g.N.Shape.limit c.args.self.now.party c.unread.new.self.party c.in-Err.errno c.unread.result
    c.unread.ensures.told
