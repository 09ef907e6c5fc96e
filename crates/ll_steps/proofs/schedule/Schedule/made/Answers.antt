use Rattle.std.proofs.Common.{◌≡◌, Err, rules, sym}
use Rattle.ll_wire.proofs.Cuts.{kept}
use Rattle.ll_steps.proofs.ReadPieces.{is_done, not_read, too_long}
use Rattle.ll_steps.proofs.schedule.Schedule.made.Goals as goal

pub returns-in_default-clause-answers : goal.returns-in_default-clause-answers
returns-in_default-clause-answers g c piece held =
    too_long c.args.self.now.world c.args.line.now piece (sym c.in_default.ensures) held

pub returns-clause-answers : goal.returns-clause-answers
returns-clause-answers g c piece held =
    is_done c.args.self.now.world c.done.new.world c.in-Some.bytes.now piece c.clients.result c.in_ok-line.line
    c.done.result (kept c.args.line.now c.in-Some.bytes.now piece (sym c.in-Some.ensures) held) c.clients.ensures
    c.in_ok-line.ensures c.done.ensures

pub returns-in_err-line-clause-answers : goal.returns-in_err-line-clause-answers
returns-in_err-line-clause-answers g c piece held =
    let same : c.from_residual.result ≡ Err c.in_err-line.field-0.0 = search rules in
    rw same (not_read c.args.self.now.world c.in-Some.bytes.now piece c.clients.result c.in_err-line.field-0.0
    (kept c.args.line.now c.in-Some.bytes.now piece (sym c.in-Some.ensures) held) c.clients.ensures
    c.in_err-line.ensures)
