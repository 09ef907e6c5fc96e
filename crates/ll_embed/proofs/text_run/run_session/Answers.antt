use Rattle.std.proofs.Common.{ap, subst, ◌∙◌}
use Rattle.ll_seq.specs.History.{Log}
use Rattle.ll_session.specs.Counts.{stop_at}
use Rattle.ll_session.specs.Session.{Answers}
use Rattle.ll_session.specs.Strict.{ScoresTo}
use Rattle.ll_session.specs.declared.score.Score.{Score}
use Rattle.ll_session.proofs.Endings.{at_ok}
use Rattle.ll_embed.specs.Alone.{own}
use Rattle.ll_embed.proofs.TextRuns.{scores_to}
use Rattle.ll_embed.proofs.text_run.run_session.Goals as goal

pub returns-in-Ok-clause-ok : goal.returns-in-Ok-clause-ok
returns-in-Ok-clause-ok g c =
    let it = c.answer_lines-ended in
    let b = it.new.answers in
    let old = g.E.Ends.devices c.args.ends.now in
    let new = g.E.Ends.devices it.new.ends in (
      b.score,
      own b.tree,
      c.into_stop.ensures,
      subst (λ (first : Score). ScoresTo Answers (own c.args.tree, first) (own b.tree, b.score) old new)
          c.new.ensures
          (scores_to _ b old new (at_ok it.result c.in-Ok.field-0 c.in-Ok.is it.ensures.ok)
          (at_ok it.result c.in-Ok.field-0 c.in-Ok.is it.ensures.over)),
      ap (λ (h : Log). h.entries) c.into_history.ensures,
    )

pub returns-in-Ok-clause-lax : goal.returns-in-Ok-clause-lax
returns-in-Ok-clause-lax g c lax =
    let b = c.answer_lines-ended.new.answers in
    c.into_stop.ensures
    ∙ ap (stop_at b.score.tally.lines) (c.answer_lines-ended.ensures.goes.1
    (ap (λ (s : Score). s.is_strict) c.new.ensures ∙ lax) ∙ ap (λ (s : Score). s.end) c.new.ensures)
