use Rattle.std.proofs.Common.{refl, subst, sym}
use Rattle.std.specs.Prelude.{string_bytes}
use Rattle.std.proofs.lemmas.Result.{IfOk-weaker}
use Rattle.ll_wire.proofs.Advance.{on_err}
use Rattle.ll_wire.specs.Grammar.{reply_line}
use Rattle.ll_session.specs.Beside.{AnswersBeside}
use Rattle.ll_session.specs.Counts.{StaysAs}
use Rattle.ll_session.specs.Strict.{Scores}
use Rattle.ll_session.specs.declared.score.Score.{Score}
use Rattle.ll_session.proofs.Scores.{scored, stays_as}
use Rattle.ll_session.proofs.scored.ScoredSessionAnswers.answer.Goals as goal

pub returns-clause-ok : goal.returns-clause-ok
returns-clause-ok g c = IfOk-weaker c.reply_line-text.result _ _ (λ text is piece held. (
  subst (λ (score : Score). Scores (AnswersBeside g.N.Shape.limit c.args.self.now.session.before)
      (c.args.self.now.session.party, c.args.self.now.score) piece (string_bytes text)
      (c.reply-reply.new.self.party, score))
      (sym c.note.ensures)
      (scored (AnswersBeside g.N.Shape.limit c.args.self.now.session.before) c.args.self.now.session.party
      c.reply-reply.new.self.party c.args.self.now.score piece _ c.reply-reply.result.0 c.reply-reply.result.1
      c.requires.going (c.reply-reply.ensures.answers piece held) is (c.reply-reply.ensures.end piece held)),
  c.reply-reply.ensures.before,
)) c.reply_line-text.ensures

pub returns-clause-err : goal.returns-clause-err
returns-clause-err g c = on_err c.reply_line-text.result (λ piece held. (
  reply_line c.reply-reply.result.0,
  (
    subst (λ (score : Score). Scores (AnswersBeside g.N.Shape.limit c.args.self.now.session.before)
        (c.args.self.now.session.party, c.args.self.now.score) piece (reply_line c.reply-reply.result.0)
        (c.reply-reply.new.self.party, score)) (sym c.note.ensures)
        (scored (AnswersBeside g.N.Shape.limit c.args.self.now.session.before) c.args.self.now.session.party
        c.reply-reply.new.self.party c.args.self.now.score piece _ c.reply-reply.result.0 c.reply-reply.result.1
        c.requires.going (c.reply-reply.ensures.answers piece held) refl (c.reply-reply.ensures.end piece held)),
    c.reply-reply.ensures.before,
  ),
))

pub returns-clause-goes : goal.returns-clause-goes
returns-clause-goes g c = (
  (c.reply-reply.ensures.goes, c.reply-reply.ensures.before),
  subst (StaysAs c.args.self.now.score) (sym c.note.ensures)
      (stays_as c.args.self.now.score c.reply-reply.result.0 c.reply-reply.result.1),
)
