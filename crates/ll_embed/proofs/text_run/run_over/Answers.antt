use Rattle.std.proofs.Common.{List, ap, refl, subst, sym, ◌∙◌}
use Rattle.ll_seq.specs.History.{Log}
use Rattle.ll_seq.specs.declared.reply.Entry.{Entry}
use Rattle.ll_session.specs.Run.{MayEnd, RunsAs}
use Rattle.ll_session.proofs.Endings.{IfKnown, if_err, may_begun, may_refused, refusal_told, runs}
use Rattle.ll_embed.specs.Alone.{own}
use Rattle.ll_embed.proofs.text_run.run_over.Goals as goal

pub returns-in_err-run_session-in-Ok-open-clause-may : goal.returns-in_err-run_session-in-Ok-open-clause-may
returns-in_err-run_session-in-Ok-open-clause-may g c =
    let fault = c.in_err-run_session-in-Ok-open.field-0.0 in
    if_err c.from_residual.result fault (MayEnd c.args.setup) c.from_residual.ensures.1
    (may_begun c.args.setup fault (own c.open.new.self) c.in-Ok-open.ensures.ok)

pub returns-in_ok-run_session-in-Ok-open-clause-transcript :
    goal.returns-in_ok-run_session-in-Ok-open-clause-transcript
returns-in_ok-run_session-in-Ok-open-clause-transcript g c =
    let run = c.in_ok-run_session-in-Ok-open.field-0 in
    let ran = c.in_ok-run_session-in-Ok-open.ensures.ok in
    runs c.args.setup (g.E.Ends.devices c.args.ends.now) (g.E.Ends.devices c.run_session.new.ends) 0
    run.history.entries ran.0 run.stop ran.2 c.args.is_strict
    (own c.open.new.self, ran.1, c.in-Ok-open.ensures.ok, (ran.1, ran.3, refl), sym ran.4)

pub returns-then-not-is_told-clause-may : goal.returns-then-not-is_told-clause-may
returns-then-not-is_told-clause-may g c =
    (sym c.is_told.ensures ∙ c.if-not-is_told.true, own c.open.new.self, c.in-Err.ensures.err)

pub returns-in_err-write_reply-in-Err-clause-may : goal.returns-in_err-write_reply-in-Err-clause-may
returns-in_err-write_reply-in-Err-clause-may g c =
    let fault = c.in_err-write_reply-in-Err.field-0.0 in
    if_err c.from_residual-in_err-write_reply-in-Err.result fault (MayEnd c.args.setup)
    c.from_residual-in_err-write_reply-in-Err.ensures.1
    (may_refused c.args.setup fault _ _ _ c.in-Err.refusal (own c.open.new.self)
    (sym c.is_told.ensures ∙ c.if-not-is_told.false, c.in-Err.ensures.err) c.in_err-write_reply-in-Err.ensures.err)

pub returns-in_ok-write_reply-in-Err-clause-transcript : goal.returns-in_ok-write_reply-in-Err-clause-transcript
returns-in_ok-write_reply-in-Err-clause-transcript g c =
    let end = own c.open.new.self in
    let old = g.E.Ends.devices c.args.ends.now in
    let new = g.E.Ends.devices c.write_reply.new.ends in
    subst (λ (es : List Entry). IfKnown old new (λ input text.
    RunsAs c.args.is_strict c.args.setup input new.remaining text c.refused.result.stop es))
    (sym (ap (λ (h : Log). h.entries) c.refused.ensures.history))
    (refusal_told c.args.is_strict c.args.setup old new c.in-Err.refusal c.into_history.result.entries
    c.refused.result.stop c.refused.ensures.stop (
      end,
      end,
      (sym c.is_told.ensures ∙ c.if-not-is_told.false, c.in-Err.ensures.err),
      refl,
      sym (ap (λ (h : Log). h.entries) c.into_history.ensures),
    )
    c.in_ok-write_reply-in-Err.ensures.ok c.in_ok-write_reply-in-Err.ensures.remaining)
