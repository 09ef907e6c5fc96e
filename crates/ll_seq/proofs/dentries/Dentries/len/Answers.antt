use Rattle.std.proofs.Common.{length, sym, ap, ◌∙◌}
use Rattle.ll_rights.specs.Map.{entries}
use Rattle.ll_rights.proofs.Maps.{entries-from_sorted}
use Rattle.ll_seq.specs.State.{dentry_cmp}
use Rattle.ll_seq.proofs.dentries.Dentries.len.Goals as goal

pub returns-clause-len : goal.returns-clause-len
returns-clause-len c =
    c.len.ensures ∙ c.self.inside.rows.ok.0
    ∙ ap length (sym (entries-from_sorted dentry_cmp c.self.inside.rows.items c.self.invariant))
    ∙ ap (λ m. length (entries m)) c.self.view_is
