use Rattle.std.proofs.Common.{◌≡◌, List, ◌++◌, drop}
use Rattle.std.specs.Prelude.{flat_map}
use Rattle.ll_seq.specs.declared.call.Call.{Call}
use Rattle.ll_policy.specs.Calls.{IsNode, Joined}
use Rattle.ll_policy.specs.Faults.{node_faults}
use Rattle.ll_policy.specs.KeptCalls.{opening_of}
use Rattle.ll_policy.proofs.Keys.{tables_in}
use Rattle.ll_policy.proofs.node.read_nodes.Given as goal

abbrev pub invariant-loop-value : goal.invariant-loop-value
invariant-loop-value l = record {
  faults : flat_map node_faults (tables_in (drop l.value-index l.values)) ≡ flat_map node_faults (tables_in l.values);
  calls : (rest : List Call) → Joined IsNode (tables_in (drop l.value-index l.values)) rest
      → Joined IsNode (tables_in l.values) (opening_of l.nodes.items ++ rest);
}
