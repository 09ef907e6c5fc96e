use Rattle.std.proofs.Common.{◌≡◌, ℕ, List, ◌++◌, drop, map}
use Rattle.std.specs.Prelude.{flat_map}
use Rattle.ll_seq.specs.declared.call.Call.{Call}
use Rattle.ll_policy.specs.Calls.{IsRule, Joined}
use Rattle.ll_policy.specs.Faults.{rule_faults}
use Rattle.ll_policy.specs.KeptCalls.{call_of_rule}
use Rattle.ll_policy.proofs.Keys.{tables_in}
use Rattle.ll_policy.proofs.profile.read_rules.Given as goal

abbrev pub invariant-loop-value : goal.invariant-loop-value
invariant-loop-value l = record {
  faults : flat_map rule_faults (tables_in (drop l.value-index l.values)) ≡ flat_map rule_faults (tables_in l.values);
  calls : (number : ℕ) (rest : List Call) → Joined (IsRule number) (tables_in (drop l.value-index l.values)) rest
      → Joined (IsRule number) (tables_in l.values) (map (call_of_rule number) l.rules.items ++ rest);
}
