use Rattle.std.proofs.Common.{◌≡◌, true, take}
use Rattle.std.specs.List.{list_all}
use Rattle.ll_learn.specs.Columns.{Grows, is_at}
use Rattle.ll_learn.specs.Draft.{is_granted, is_asked_at}
use Rattle.ll_learn.proofs.right_column.charge.Given as goal

-- so far
abbrev pub invariant-loop-asked : goal.invariant-loop-asked
invariant-loop-asked l = record {
  grows : Grows (is_asked_at l.scope l.right l.asks) l.fn.held.items l.held.items;
  met : list_all (is_granted (is_at l.held.items) l.right) (take l.asked-index l.asks) ≡ true;
}
