use Rattle.std.proofs.Common.{List, ap, false, inl, refl, subst, sym, ◌∙◌, ◌≡◌}
use Rattle.ll_wire.specs.declared.fault.SessionFault.TheVariants.{NoMemory}
use Rattle.ll_seq.specs.History.{IsLegal, Log}
use Rattle.ll_seq.specs.declared.reply.Entry.{Entry}
use Rattle.ll_seq.specs.State.{start}
use Rattle.ll_seq.specs.declared.rules.Rules.{Rules}
use Rattle.ll_session.specs.declared.fault.RunFault.TheVariants.{Opening, Session}
use Rattle.ll_session.specs.FirstClients.{Opens, Refuses, begun}
use Rattle.ll_session.specs.Progress.{RunsTo, StopsAt, without}
use Rattle.ll_session.specs.Run.{BeginsBy, IsOpened, MayEnd, RunsAs, refusal_in}
use Rattle.ll_session.proofs.Endings.{IfKnown, begins_by, begins_lines, if_err, may_begun, may_refused, nothing_done}
use Rattle.ll_session.proofs.Endings.{opening_begun, opening_refused, refusal_stops, refusal_told, runs}
use Rattle.ll_session.proofs.Ways.{at_last, closes_here}
use Rattle.ll_session.proofs.run.run_in.Goals as goal

pub returns-in_default-clause-beginning : goal.returns-in_default-clause-beginning
returns-in_default-clause-beginning g c =
    nothing_done c.args.manner.now.is_strict c.args.setup (Session NoMemory) (g.E.Ends.devices c.args.ends.now)
    (λ input. inl refl)

pub returns-in_err-run_session-in-Ok-clause-beginning :
    goal.returns-in_err-run_session-in-Ok-clause-beginning
returns-in_err-run_session-in-Ok-clause-beginning g c =
    let old = g.E.Ends.devices c.args.ends.now in
    let new = g.E.Ends.devices c.run_session.new.ends in
    let fault = c.in_err-run_session-in-Ok.field-0.0 in
    let ended = c.in_err-run_session-in-Ok.ensures.err c.args.setup.nodes c.requires.slots in
    if_err c.from_residual.result fault (λ of. IfKnown old new (BeginsBy c.args.manner.now.is_strict c.args.setup of))
    c.from_residual.ensures.1
    (begins_by c.args.manner.now.is_strict c.args.setup fault old new
    (begins_lines c.args.setup old new c.in-Ok.before ended.0
    c.args.manner.now.is_strict
    (at_last c.args.setup g.N.Shape.rules g.N.Shape.limit c.in-Some.shared.party c.open.new.self.party ended.0
    (λ t. Opens c.args.setup (begun (without c.in-Ok.before t)))
    (StopsAt c.in-Ok.before c.args.manner.now.is_strict old new) c.requires.rules c.requires.limit c.in-Some.ensures
    (c.in-Ok.ensures.ok c.args.setup.nodes) ended.1)))

pub returns-in_err-run_session-in-Ok-clause-may : goal.returns-in_err-run_session-in-Ok-clause-may
returns-in_err-run_session-in-Ok-clause-may g c =
    let old = g.E.Ends.devices c.args.ends.now in
    let new = g.E.Ends.devices c.run_session.new.ends in
    let fault = c.in_err-run_session-in-Ok.field-0.0 in
    let ended = c.in_err-run_session-in-Ok.ensures.err c.args.setup.nodes c.requires.slots in
    let e = at_last c.args.setup g.N.Shape.rules g.N.Shape.limit c.in-Some.shared.party c.open.new.self.party ended.0
    (λ t. Opens c.args.setup (begun (without c.in-Ok.before t)))
    (StopsAt c.in-Ok.before c.args.manner.now.is_strict old new) c.requires.rules c.requires.limit c.in-Some.ensures
    (c.in-Ok.ensures.ok c.args.setup.nodes) ended.1 in
    if_err c.from_residual.result fault (MayEnd c.args.setup) c.from_residual.ensures.1
    (may_begun c.args.setup fault (without c.in-Ok.before e.0) e.2)

pub returns-in_ok-run_session-in-Ok-clause-transcript :
    goal.returns-in_ok-run_session-in-Ok-clause-transcript
returns-in_ok-run_session-in-Ok-clause-transcript g c =
    let old = g.E.Ends.devices c.args.ends.now in
    let new = g.E.Ends.devices c.run_session.new.ends in
    let run = c.in_ok-run_session-in-Ok.field-0 in
    let ran = c.in_ok-run_session-in-Ok.ensures.ok in
    runs c.args.setup old new c.in-Ok.before run.history.entries ran.0 run.stop ran.1 c.args.manner.now.is_strict
    (at_last c.args.setup g.N.Shape.rules g.N.Shape.limit c.in-Some.shared.party c.open.new.self.party
    run.history.entries
    (λ t. Opens c.args.setup (begun (without c.in-Ok.before t)))
    (RunsTo c.in-Ok.before c.args.manner.now.is_strict ran.0 old new) c.requires.rules
    c.requires.limit c.in-Some.ensures
    (c.in-Ok.ensures.ok c.args.setup.nodes)
    (ran.2 c.args.setup.nodes c.requires.slots))

pub returns-in_ok-run_session-in-Ok-clause-legal : goal.returns-in_ok-run_session-in-Ok-clause-legal
returns-in_ok-run_session-in-Ok-clause-legal g c =
    subst (λ (r : Rules). IsLegal (start r c.args.setup.nodes) c.in_ok-run_session-in-Ok.field-0.history.entries)
    c.requires.rules (c.in_ok-run_session-in-Ok.ensures.ok.2 c.args.setup.nodes c.requires.slots).1.legal

pub returns-in_ok-run_session-in-Ok-clause-opening : goal.returns-in_ok-run_session-in-Ok-clause-opening
returns-in_ok-run_session-in-Ok-clause-opening g c =
    let old = g.E.Ends.devices c.args.ends.now in
    let new = g.E.Ends.devices c.run_session.new.ends in
    let run = c.in_ok-run_session-in-Ok.field-0 in
    let ran = c.in_ok-run_session-in-Ok.ensures.ok in
    let e = at_last c.args.setup g.N.Shape.rules g.N.Shape.limit c.in-Some.shared.party c.open.new.self.party
    run.history.entries
    (λ t. Opens c.args.setup (begun (without c.in-Ok.before t)))
    (RunsTo c.in-Ok.before c.args.manner.now.is_strict ran.0 old new) c.requires.rules c.requires.limit
    c.in-Some.ensures (c.in-Ok.ensures.ok c.args.setup.nodes) (ran.2 c.args.setup.nodes c.requires.slots) in
    opening_begun c.args.setup old.contents new.contents run.history.entries ran.0 run.stop run.refusal
    (without c.in-Ok.before e.0) ran.1 c.in_ok-run_session-in-Ok.ensures.begun e.2

pub returns-then-not-is_told-clause-beginning : goal.returns-then-not-is_told-clause-beginning
returns-then-not-is_told-clause-beginning g c =
    nothing_done c.args.manner.now.is_strict c.args.setup (Opening c.in-Err.refusal)
    (g.E.Ends.devices c.args.ends.now) (λ input. refl)

pub returns-then-not-is_told-clause-may : goal.returns-then-not-is_told-clause-may
returns-then-not-is_told-clause-may g c =
    let e = at_last c.args.setup g.N.Shape.rules g.N.Shape.limit c.in-Some.shared.party c.open.new.self.party
    c.close_kept.result.entries (Refuses c.args.setup c.in-Err.refusal) (λ s t. t ≡ s) c.requires.rules
    c.requires.limit c.in-Some.ensures (c.in-Err.ensures.err c.args.setup.nodes)
    (closes_here g.N.Shape.rules c.args.setup.nodes g.N.Shape.limit c.open.new.self.party c.close_kept.result.entries
    (c.close_kept.ensures.closed c.args.setup.nodes c.requires.slots)) in
    (sym c.is_told.ensures ∙ c.if-not-is_told.true, e.0, e.2)

pub returns-then-not-is_told-clause-fault : goal.returns-then-not-is_told-clause-fault
returns-then-not-is_told-clause-fault g c = (returns-then-not-is_told-clause-may g c, c.requires.whole)

pub returns-in_err-history-in-Err-clause-beginning : goal.returns-in_err-history-in-Err-clause-beginning
returns-in_err-history-in-Err-clause-beginning g c =
    let old = g.E.Ends.devices c.args.ends.now in
    let new = g.E.Ends.devices c.tell_refusal.new.ends in
    let fault = c.in_err-history-in-Err.field-0.0 in
    let ended = c.in_err-history-in-Err.ensures.over c.args.setup.nodes c.requires.slots in
    let e = at_last c.args.setup g.N.Shape.rules g.N.Shape.limit c.in-Some.shared.party c.open.new.self.party ended.0
    (Refuses c.args.setup c.in-Err.refusal) (λ s t. t ≡ s) c.requires.rules c.requires.limit c.in-Some.ensures
    (c.in-Err.ensures.err c.args.setup.nodes)
    (closes_here g.N.Shape.rules c.args.setup.nodes g.N.Shape.limit c.open.new.self.party ended.0 ended.1) in
    if_err c.from_residual-in_err-history-in-Err.result fault
    (λ of. IfKnown old new (BeginsBy c.args.manner.now.is_strict c.args.setup of))
    c.from_residual-in_err-history-in-Err.ensures.1
    (refusal_stops c.args.manner.now.is_strict c.args.setup fault old new c.in-Err.refusal e.0
    (sym c.is_told.ensures ∙ c.if-not-is_told.false, e.2) c.in_err-history-in-Err.ensures.err)

pub returns-in_err-history-in-Err-clause-may : goal.returns-in_err-history-in-Err-clause-may
returns-in_err-history-in-Err-clause-may g c =
    let fault = c.in_err-history-in-Err.field-0.0 in
    let ended = c.in_err-history-in-Err.ensures.over c.args.setup.nodes c.requires.slots in
    let e = at_last c.args.setup g.N.Shape.rules g.N.Shape.limit c.in-Some.shared.party c.open.new.self.party ended.0
    (Refuses c.args.setup c.in-Err.refusal) (λ s t. t ≡ s) c.requires.rules c.requires.limit c.in-Some.ensures
    (c.in-Err.ensures.err c.args.setup.nodes)
    (closes_here g.N.Shape.rules c.args.setup.nodes g.N.Shape.limit c.open.new.self.party ended.0 ended.1) in
    if_err c.from_residual-in_err-history-in-Err.result fault (MayEnd c.args.setup)
    c.from_residual-in_err-history-in-Err.ensures.1
    (may_refused c.args.setup fault _ _ _ c.in-Err.refusal e.0 (sym c.is_told.ensures ∙ c.if-not-is_told.false, e.2)
    c.in_err-history-in-Err.ensures.err)

pub returns-in_ok-history-in-Err-clause-transcript : goal.returns-in_ok-history-in-Err-clause-transcript
returns-in_ok-history-in-Err-clause-transcript g c =
    let entries = c.in_ok-history-in-Err.history.entries in
    let e = at_last c.args.setup g.N.Shape.rules g.N.Shape.limit c.in-Some.shared.party c.open.new.self.party entries
    (Refuses c.args.setup c.in-Err.refusal) (λ s t. t ≡ s) c.requires.rules c.requires.limit c.in-Some.ensures
    (c.in-Err.ensures.err c.args.setup.nodes)
    (closes_here g.N.Shape.rules c.args.setup.nodes g.N.Shape.limit c.open.new.self.party entries
    (c.in_ok-history-in-Err.ensures.closed c.args.setup.nodes c.requires.slots)) in
    subst (λ (es : List Entry). IfKnown (g.E.Ends.devices c.args.ends.now) (g.E.Ends.devices c.tell_refusal.new.ends)
    (λ input text. RunsAs c.args.manner.now.is_strict c.args.setup input
    (g.E.Ends.devices c.tell_refusal.new.ends).remaining text c.refused.result.stop es))
    (sym (ap (λ (h : Log). h.entries) c.refused.ensures.history))
    (refusal_told c.args.manner.now.is_strict c.args.setup (g.E.Ends.devices c.args.ends.now)
    (g.E.Ends.devices c.tell_refusal.new.ends) c.in-Err.refusal entries c.refused.result.stop
    c.refused.ensures.stop (e.0, e.1, (sym c.is_told.ensures ∙ c.if-not-is_told.false, e.2), e.3, e.4)
    c.in_ok-history-in-Err.ensures.ok c.in_ok-history-in-Err.ensures.remaining)

pub returns-in_ok-history-in-Err-clause-opening : goal.returns-in_ok-history-in-Err-clause-opening
returns-in_ok-history-in-Err-clause-opening g c =
    let entries = c.in_ok-history-in-Err.history.entries in
    let e = at_last c.args.setup g.N.Shape.rules g.N.Shape.limit c.in-Some.shared.party c.open.new.self.party entries
    (Refuses c.args.setup c.in-Err.refusal) (λ s t. t ≡ s) c.requires.rules c.requires.limit c.in-Some.ensures
    (c.in-Err.ensures.err c.args.setup.nodes)
    (closes_here g.N.Shape.rules c.args.setup.nodes g.N.Shape.limit c.open.new.self.party entries
    (c.in_ok-history-in-Err.ensures.closed c.args.setup.nodes c.requires.slots)) in
    subst (λ (es : List Entry). IsOpened c.args.setup (g.E.Ends.devices c.args.ends.now).contents
    (g.E.Ends.devices c.tell_refusal.new.ends).contents
    (refusal_in c.refused.result.stop c.refused.result.refusal) es)
    (sym (ap (λ (h : Log). h.entries) c.refused.ensures.history))
    (opening_refused c.args.manner.now.is_strict c.args.setup (g.E.Ends.devices c.args.ends.now).contents
    (g.E.Ends.devices c.tell_refusal.new.ends).contents c.in-Err.refusal entries c.refused.result.stop
    c.refused.result.refusal c.refused.ensures.stop c.refused.ensures.refusal
    (e.0, e.1, (sym c.is_told.ensures ∙ c.if-not-is_told.false, e.2), e.3, e.4) c.in_ok-history-in-Err.ensures.ok)
