use Rattle.std.proofs.Common.{sym, ◌∙◌}
use Rattle.ll_seq.specs.State.{dentry}
use Rattle.ll_seq.proofs.OrderedTables.{got, got_row}
use Rattle.ll_seq.proofs.dentries.Dentries.get.Goals as goal

pub returns-in_err-i : goal.returns-in_err-i
returns-in_err-i c =
    c.from_residual.ensures
    ∙ sym (got c.self.inside.rows.items c.deref.result.now c.args.self.now (dentry c.args.directory c.args.name.now)
    c.self.view_is c.self.invariant c.deref.ensures.value ∙ c.in_err-i.ensures.none)

pub returns : goal.returns
returns c =
    sym (got_row c.self.inside.rows.items c.deref.result.now c.args.self.now (dentry c.args.directory c.args.name.now)
    c.in_ok-i.i c.index.result.now c.self.view_is c.self.invariant c.deref.ensures.value c.in_ok-i.ensures.row
    c.index.ensures)
