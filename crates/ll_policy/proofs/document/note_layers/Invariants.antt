use Rattle.std.proofs.Common.{◌≡◌, ◌≤◌, ◌+◌, ◌++◌, drop, map}
use Rattle.std.specs.Prelude.{flat_map}
use Rattle.std.specs.List.{enumerate_from}
use Rattle.ll_policy.specs.Places.{in_layer, placed}
use Rattle.ll_policy.proofs.Keys.{tables_in}
use Rattle.ll_policy.proofs.document.note_layers.Given as goal

abbrev pub invariant-loop-value : goal.invariant-loop-value
invariant-loop-value l = record {
  counted : l.number ≤ l.value-index;
  noted : map placed l.found.items
      ++ flat_map (in_layer l.profile) (enumerate_from (l.number + 1) (tables_in (drop l.value-index l.values)))
      ≡ map placed l.fn.found.items ++ flat_map (in_layer l.profile) (enumerate_from 1 (tables_in l.values));
}
