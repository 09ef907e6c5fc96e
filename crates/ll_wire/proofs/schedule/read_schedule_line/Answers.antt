use Rattle.std.proofs.Common.{arith, inl, refl}
use Rattle.ll_wire.proofs.ScheduleTokens.{no_line, too_many, line_reads}
use Rattle.ll_wire.proofs.schedule.read_schedule_line.Goals as goal

pub returns-in_default : goal.returns-in_default
returns-in_default c = inl (refl, λ v is. no_line c.args.line.now c.in_default.ensures.none v is.0)

pub returns-in_default-tokens_of : goal.returns-in_default-tokens_of
returns-in_default-tokens_of c =
    let found = c.in-Some.ensures.found in
    inl (refl, λ v is. too_many c.args.line.now c.in-Some.body.now found c.in_default-tokens_of.ensures.none v is.0)

pub returns : goal.returns
returns c = line_reads c.args.line.now c.in-Some.body.now _ c.args.clients c.schedule_line_of.result (omega arith)
    c.in-Some.ensures.found c.in-Some-tokens_of.ensures.found.1 c.schedule_line_of.ensures
