use Rattle.std.proofs.Common.{◌≤◌, ◌∙◌, List, ℕ, ap, arith, refl, subst, sym}
use Rattle.std.proofs.lemmas.Result.{IfOk-weaker}
use Rattle.ll_wire.specs.Devices.{line_feeds}
use Rattle.ll_wire.proofs.Advance.{on_err}
use Rattle.ll_seq.specs.declared.reply.Entry.{Entry}
use Rattle.ll_steps.specs.Pace.{StaysAs}
use Rattle.ll_steps.specs.Tells.{answer_line}
use Rattle.ll_steps.specs.declared.halt.Pace.{Pace}
use Rattle.ll_steps.proofs.Paces.{none_there, stays_as}
use Rattle.ll_steps.proofs.Wholes.{answer_feeds}
use Rattle.ll_steps.proofs.answers.ScheduleAnswers.answer.Goals as goal

pub returns-clause-ok : goal.returns-clause-ok
returns-clause-ok g c = IfOk-weaker c.answer_text.result _ _ (λ text is piece held. (
  (
    none_there c.args.self.now.pace.halt c.requires.going,
    (
      c.outcome-answer.result,
      c.outcome-answer.ensures.answers piece held,
      is ∙ ap (λ (es : List Entry). answer_line es c.outcome-answer.result)
          (c.entries.ensures.entries ∙ ap (λ h. h.entries) c.history.ensures),
      c.outcome-answer.ensures.noted,
    ),
  ),
  c.outcome-answer.ensures.seen,
)) c.answer_text.ensures

pub returns-clause-feed : goal.returns-clause-feed
returns-clause-feed g c = IfOk-weaker c.answer_text.result _ _ (λ text is.
    subst (λ (line : List ℕ). 1 ≤ line_feeds line) (sym is) (answer_feeds _ c.outcome-answer.result))
    c.answer_text.ensures

pub returns-clause-err : goal.returns-clause-err
returns-clause-err g c = on_err c.answer_text.result (λ piece held. (
  answer_line c.outcome-answer.new.self.world.history c.outcome-answer.result,
  (
    (
      none_there c.args.self.now.pace.halt c.requires.going,
      (
        c.outcome-answer.result,
        c.outcome-answer.ensures.answers piece held,
        refl,
        c.outcome-answer.ensures.noted,
      ),
    ),
    c.outcome-answer.ensures.seen,
  ),
))

pub returns-clause-goes : goal.returns-clause-goes
returns-clause-goes g c = (
  subst (StaysAs c.args.self.now.pace) (sym c.outcome-answer.ensures.noted)
      (stays_as c.args.self.now.pace c.outcome-answer.result),
  c.outcome-answer.ensures.goes,
)

pub returns-clause-used : goal.returns-clause-used
returns-clause-used g c =
    let one = ap (λ (p : Pace). p.lines) c.outcome-answer.ensures.noted in
    omega (arith, one, c.outcome-answer.ensures.seen)
