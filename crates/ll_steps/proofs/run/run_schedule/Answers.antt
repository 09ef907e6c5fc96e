use Rattle.std.proofs.Common.{◌≡◌, ◌+◌, ◌∙◌, Option, ap, arith, is_some, subst, sym}
use Rattle.std.specs.Prelude.{IfSome}
use Rattle.ll_wire.proofs.Advance.{on_err}
use Rattle.ll_wire.specs.Transcript.{Writes}
use Rattle.ll_steps.specs.Told.{IsToldAs, lines_answered}
use Rattle.ll_steps.specs.declared.halt.Halt.{Halt}
use Rattle.ll_steps.specs.declared.halt.Pace.{Pace}
use Rattle.ll_steps.proofs.Wholes.{all_read, all_seen, all_told, last_stops, line_stops, nothing_told}
use Rattle.ll_steps.proofs.run.run_schedule.Goals as goal

pub returns-in_default-clause-beginning : goal.returns-in_default-clause-beginning
returns-in_default-clause-beginning g c = nothing_told c.args.setup c.args.is_strict (g.E.Ends.devices c.args.ends.now)

pub returns-in_err-answer_lines-clause-beginning : goal.returns-in_err-answer_lines-clause-beginning
returns-in_err-answer_lines-clause-beginning g c =
    let d = g.E.Ends.devices in
    on_err c.from_residual.result (line_stops c.in-Ok.schedule c.answer_lines.new.answers (λ s. s.world) (λ s. s.pace)
    (λ s. g.W.Witness.seen s.witness) c.args.setup c.args.is_strict c.in-Ok.ensures.world c.in-Ok.ensures.pace
    (d c.args.ends.now) (d c.answer_lines.new.ends) c.in_err-answer_lines.ensures.err)

pub answer_lines-requires-clause-room : goal.answer_lines-requires-clause-room
answer_lines-requires-clause-room g c =
    let none : c.in-Ok.schedule.pace.lines ≡ 0 = ap (λ (p : Pace). p.lines) c.in-Ok.ensures.pace in
    let same = ap g.W.Witness.seen c.in-Ok.ensures.witness in omega (arith, none, same, c.requires.room)

pub answer_lines-requires-clause-going : goal.answer_lines-requires-clause-going
answer_lines-requires-clause-going g c = ap (λ (p : Pace). is_some p.halt) c.in-Ok.ensures.pace

pub returns-in-Ok-finish-clause-transcript : goal.returns-in-Ok-finish-clause-transcript
returns-in-Ok-finish-clause-transcript g c =
    let d = g.E.Ends.devices in
    let b = c.answer_lines.new.answers in
    subst (λ (o : Option Halt). IfSome (d c.args.ends.now).remaining (λ input.
    Writes (d c.args.ends.now).contents (d c.finish.new.ends).contents
    (λ text. IsToldAs c.args.is_strict c.args.setup input text o)))
    (sym c.into_run.ensures.halt)
    (all_told c.in-Ok.schedule b (λ s. s.world) (λ s. s.pace) (λ s. g.W.Witness.seen s.witness)
    c.args.setup c.args.is_strict c.in-Ok.ensures.world c.in-Ok.ensures.pace (d c.args.ends.now)
    (d c.answer_lines.new.ends) c.in_ok-answer_lines.ensures.ok c.in_ok-answer_lines.ensures.over
    (d c.finish.new.ends) c.in-Ok-finish.ensures.ok)

pub returns-in-Ok-finish-clause-all : goal.returns-in-Ok-finish-clause-all
returns-in-Ok-finish-clause-all g c none =
    let d = g.E.Ends.devices in
    let b = c.answer_lines.new.answers in
    all_read c.in-Ok.schedule b (λ s. s.world) (λ s. s.pace) (λ s. g.W.Witness.seen s.witness)
    c.args.setup c.args.is_strict c.in-Ok.ensures.world c.in-Ok.ensures.pace (d c.args.ends.now)
    (d c.answer_lines.new.ends) c.in_ok-answer_lines.ensures.ok c.in_ok-answer_lines.ensures.over
    (d c.finish.new.ends) c.finish.ensures.remaining (sym c.into_run.ensures.halt ∙ none)

pub returns-in-Ok-finish-clause-lax : goal.returns-in-Ok-finish-clause-lax
returns-in-Ok-finish-clause-lax g c lax =
    c.into_run.ensures.halt
    ∙ c.answer_lines.ensures.goes.0.1 (ap (λ (p : Pace). p.is_strict) c.in-Ok.ensures.pace ∙ lax)
    ∙ ap (λ (p : Pace). p.halt) c.in-Ok.ensures.pace

pub returns-in-Err-clause-beginning : goal.returns-in-Err-clause-beginning
returns-in-Err-clause-beginning g c =
    let d = g.E.Ends.devices in
    let b = c.answer_lines.new.answers in
    last_stops c.in-Ok.schedule b (λ s. s.world) (λ s. s.pace) (λ s. g.W.Witness.seen s.witness)
    c.args.setup c.args.is_strict c.in-Ok.ensures.world c.in-Ok.ensures.pace (d c.args.ends.now)
    (d c.answer_lines.new.ends) c.in_ok-answer_lines.ensures.ok c.in_ok-answer_lines.ensures.over
    (d c.finish.new.ends) c.in-Err.ensures.err

pub returns-in-Ok-finish-clause-seen : goal.returns-in-Ok-finish-clause-seen
returns-in-Ok-finish-clause-seen g c =
    let d = g.E.Ends.devices in
    let b = c.answer_lines.new.answers in
    subst (λ (o : Option Halt). IfSome (d c.args.ends.now).remaining (λ input.
    g.W.Witness.seen c.into_run.result.witness
    ≡ g.W.Witness.seen c.args.witness + lines_answered input o))
    (sym c.into_run.ensures.halt)
    (all_seen c.in-Ok.schedule b (λ s. s.world) (λ s. s.pace) (λ s. g.W.Witness.seen s.witness)
    c.args.setup c.args.is_strict c.in-Ok.ensures.world c.in-Ok.ensures.pace (d c.args.ends.now)
    (d c.answer_lines.new.ends) c.in_ok-answer_lines.ensures.ok c.in_ok-answer_lines.ensures.over
    (g.W.Witness.seen c.args.witness) _ (ap g.W.Witness.seen c.in-Ok.ensures.witness) c.into_run.ensures.seen)
