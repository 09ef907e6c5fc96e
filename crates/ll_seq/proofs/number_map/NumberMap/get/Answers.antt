use Rattle.std.proofs.Common.{sym, ap, ◌∙◌}
use Rattle.std.specs.Option.{option_copied}
use Rattle.ll_seq.proofs.OrderedTables.{got, got_row}
use Rattle.ll_seq.proofs.number_map.NumberMap.get.Goals as goal

pub returns-in_err-i : goal.returns-in_err-i
returns-in_err-i g c =
    ap option_copied c.from_residual.ensures
    ∙ sym (got c.self.inside.rows.items c.deref.result.now c.args.self.now c.args.number c.self.view_is
    c.self.invariant c.deref.ensures.value ∙ c.in_err-i.ensures.none)

pub returns : goal.returns
returns g c =
    sym (got_row c.self.inside.rows.items c.deref.result.now c.args.self.now c.args.number c.in_ok-i.i
    c.index.result.now c.self.view_is c.self.invariant c.deref.ensures.value c.in_ok-i.ensures.row c.index.ensures)
