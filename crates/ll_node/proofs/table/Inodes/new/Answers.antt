use Rattle.std.proofs.Common.{ℕ, ap, refl, ◌∙◌}
use Rattle.std.specs.Ordering.{nat_cmp}
use Rattle.ll_rights.specs.Map.{get, insert}
use Rattle.ll_rights.proofs.Maps.{get-empty}
use Rattle.ll_node.proofs.NewTables.{new_table}
use Rattle.ll_node.proofs.table.Inodes.new.Goals as goal

pub insert-requires : goal.insert-requires
insert-requires c = ap (λ m. get m 1) c.new-places.ensures ∙ get-empty ℕ nat_cmp 1

pub returns-clause-table : goal.returns-clause-table
returns-clause-table c =
    new_table _ c.args.nodes _ c.requires.some refl c.in_ok-of_root.ensures refl c.in_ok-root_alone.ensures
    (c.places.view_is ∙ c.in_ok-insert.ensures.ok ∙ ap (λ m. insert m 1 0) c.new-places.ensures)
    c.in_ok-all_free.ensures.items
