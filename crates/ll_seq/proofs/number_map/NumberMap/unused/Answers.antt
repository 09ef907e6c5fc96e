use Rattle.std.proofs.Common.{ap, ◌∙◌}
use Rattle.std.specs.Prelude.{is_some}
use Rattle.ll_seq.proofs.OrderedTables.{got}
use Rattle.ll_seq.proofs.number_map.NumberMap.unused.Goals as goal

pub returns : goal.returns
returns g c = ap is_some (got c.self.inside.rows.items c.deref.result.now c.args.self.now c.gap.result c.self.view_is
    c.self.invariant c.deref.ensures.value ∙ c.gap.ensures)
