use Rattle.std.proofs.Common.{◌≡◌, ◌<◌, vec_capacity}
use Rattle.std.specs.List.{range_with_len}
use Rattle.ll_node.proofs.table.all_free.Given as goal

abbrev pub invariant-loop-slot : goal.invariant-loop-slot
invariant-loop-slot l = record {
  items : l.free.items ≡ range_with_len 1 l.slot;
  len : l.free.len ≡ l.slot;
  room : l.fn.others < vec_capacity l.free;
}
