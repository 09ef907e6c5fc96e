use Rattle.ll_wire.proofs.Headers.{no_header, too_many, line_finds}
use Rattle.ll_wire.proofs.header.read_header.Goals as goal

pub returns-in_err-body : goal.returns-in_err-body
returns-in_err-body c = rw c.from_residual.ensures (no_header c.args.line.now c.in_err-body.ensures.none)

pub returns-in_err-count : goal.returns-in_err-count
returns-in_err-count c =
    rw c.from_residual-in_err-count.ensures
    (too_many c.args.line.now c.in_ok-body.body.now c.in_ok-body.ensures.found c.in_err-count.ensures.none)

pub returns : goal.returns
returns c = line_finds c.args.line.now c.in_ok-body.body.now _ c.header_of.result c.in_ok-body.ensures.found
    c.in_ok-count.ensures.found.1 c.header_of.ensures
