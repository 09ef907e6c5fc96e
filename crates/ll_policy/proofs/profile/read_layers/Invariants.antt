use Rattle.std.proofs.Common.{◌≡◌, List, ◌++◌, drop, length}
use Rattle.std.specs.Prelude.{flat_map}
use Rattle.std.specs.List.{enumerate_from}
use Rattle.ll_seq.specs.declared.call.Call.{Call}
use Rattle.ll_policy.specs.Calls.{IsLayer, Joined}
use Rattle.ll_policy.specs.Faults.{layer_faults}
use Rattle.ll_policy.specs.KeptCalls.{calls_of_layers}
use Rattle.ll_policy.proofs.Keys.{tables_in}
use Rattle.ll_policy.proofs.profile.read_layers.Given as goal

abbrev pub invariant-loop-value : goal.invariant-loop-value
invariant-loop-value l = record {
  faults : flat_map layer_faults (tables_in (drop l.value-index l.values)) ≡ flat_map layer_faults (tables_in l.values);
  calls : (rest : List Call) → Joined IsLayer
      (enumerate_from (length l.layers.items) (tables_in (drop l.value-index l.values))) rest
      → Joined IsLayer (enumerate_from 0 (tables_in l.values)) (calls_of_layers 0 l.layers.items ++ rest);
}
