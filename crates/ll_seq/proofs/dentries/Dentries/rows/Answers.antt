use Rattle.std.proofs.Common.{sym, ap, ◌∙◌}
use Rattle.ll_rights.specs.Map.{entries}
use Rattle.ll_rights.proofs.Maps.{entries-from_sorted}
use Rattle.ll_seq.specs.State.{dentry_cmp}
use Rattle.ll_seq.proofs.dentries.Dentries.rows.Goals as goal

pub returns : goal.returns
returns c = c.as_slice.ensures.value ∙ sym (entries-from_sorted dentry_cmp c.self.inside.rows.items c.self.invariant)
    ∙ ap entries c.self.view_is
