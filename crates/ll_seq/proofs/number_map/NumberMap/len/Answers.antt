use Rattle.std.proofs.Common.{length, sym, ap, ◌∙◌}
use Rattle.std.specs.Ordering.{nat_cmp}
use Rattle.ll_rights.specs.Map.{entries}
use Rattle.ll_rights.proofs.Maps.{entries-from_sorted}
use Rattle.ll_seq.proofs.number_map.NumberMap.len.Goals as goal

pub returns : goal.returns
returns g c = c.len.ensures ∙ c.self.inside.rows.ok.0
    ∙ ap length (sym (entries-from_sorted nat_cmp c.self.inside.rows.items c.self.invariant))
    ∙ ap (λ m. length (entries m)) c.self.view_is
