use Rattle.std.proofs.Common.{false, refl, subst, sym, ◌∙◌}
use Rattle.std.specs.Prelude.{string_bytes}
use Rattle.std.proofs.lemmas.Result.{IfOk-weaker}
use Rattle.ll_seq.specs.declared.reply.Reply.TheVariants.{Done}
use Rattle.ll_wire.proofs.Advance.{on_err}
use Rattle.ll_wire.specs.Grammar.{reply_line}
use Rattle.ll_session.specs.Counts.{StaysAs}
use Rattle.ll_session.specs.Session.{Answers}
use Rattle.ll_session.specs.Strict.{Scores}
use Rattle.ll_session.specs.declared.score.Score.{Score}
use Rattle.ll_session.proofs.Scores.{scored, stays_as}
use Rattle.ll_embed.specs.Alone.{own}
use Rattle.ll_embed.proofs.Owned.{held_counts}
use Rattle.ll_embed.proofs.text_run.OwnSessionAnswers.answer.Goals as goal

pub returns-in-Ok-clause-ok : goal.returns-in-Ok-clause-ok
returns-in-Ok-clause-ok c = IfOk-weaker c.reply_line-text.result _ _ (λ text is piece held.
    let a = c.in-Ok.ensures.ok piece held in
    subst (λ (score : Score). Scores Answers (own c.args.self.now.tree, c.args.self.now.score) piece
    (string_bytes text) (own c.reply.new.self, score)) (sym c.note.ensures)
    (scored Answers (own c.args.self.now.tree) (own c.reply.new.self) c.args.self.now.score piece _ c.in-Ok.reply
    c.in-Ok.is_end c.requires.going a.0 is a.1)) c.reply_line-text.ensures

pub returns-in-Ok-clause-err : goal.returns-in-Ok-clause-err
returns-in-Ok-clause-err c = on_err c.reply_line-text.result (λ piece held.
    let a = c.in-Ok.ensures.ok piece held in (
      reply_line c.in-Ok.reply,
      subst (λ (score : Score). Scores Answers (own c.args.self.now.tree, c.args.self.now.score) piece
          (reply_line c.in-Ok.reply) (own c.reply.new.self, score)) (sym c.note.ensures)
          (scored Answers (own c.args.self.now.tree) (own c.reply.new.self) c.args.self.now.score piece _
          c.in-Ok.reply c.in-Ok.is_end c.requires.going a.0 refl a.1),
    ))

pub returns-in-Ok-clause-goes : goal.returns-in-Ok-clause-goes
returns-in-Ok-clause-goes c = subst (StaysAs c.args.self.now.score) (sym c.note.ensures)
    (stays_as c.args.self.now.score c.in-Ok.reply c.in-Ok.is_end)

pub returns-in-Err-clause-err : goal.returns-in-Err-clause-err
returns-in-Err-clause-err c piece held =
    let h = c.in-Err.ensures.err piece held in (
      reply_line h.0,
      subst (λ (score : Score). Scores Answers (own c.args.self.now.tree, c.args.self.now.score) piece
          (reply_line h.0) (own c.reply.new.self, score))
          (held_counts c.args.self.now.score h.0 h.3 ∙ sym c.note-in-Err.ensures)
          (scored Answers (own c.args.self.now.tree) (own c.reply.new.self) c.args.self.now.score piece _ h.0 false
          c.requires.going h.1 refl h.2),
    )

pub returns-in-Err-clause-goes : goal.returns-in-Err-clause-goes
returns-in-Err-clause-goes c = subst (StaysAs c.args.self.now.score) (sym c.note-in-Err.ensures)
    (stays_as c.args.self.now.score Done false)
