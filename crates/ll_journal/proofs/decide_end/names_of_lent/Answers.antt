use Rattle.std.specs.Prelude.{◌≡◌, ℕ, List, map, IfOk}
use Rattle.std.proofs.Common.{subst, ap, ◌∙◌}
use Rattle.ll_rights.specs.Map.{entries}
use Rattle.ll_node.specs.Slot.{NameMap}
use Rattle.ll_node.proofs.NameMaps.{names-names_map}
use Rattle.ll_journal.proofs.decide_end.names_of_lent.Goals as goal

pub returns-in-None : goal.returns-in-None
returns-in-None c s lends = absurd (c.in-None.ensures s lends)

pub returns-in-Some : goal.returns-in-Some
returns-in-Some c s lends =
    subst (λ (told : List (List ℕ)). IfOk c.names.result (λ names. names ≡ told))
    (ap (λ (m : NameMap). map (λ (e : List ℕ × ℕ). e.0) (entries m)) (c.in-Some.ensures s lends).0
    ∙ names-names_map s c.args.inode)
    c.names.ensures
