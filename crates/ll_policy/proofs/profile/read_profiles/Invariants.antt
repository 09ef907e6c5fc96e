use Rattle.std.proofs.Common.{◌≡◌, ℕ, List, ◌++◌, map}
use Rattle.std.specs.Prelude.{flat_map}
use Rattle.toml.specs.View.{members_view}
use Rattle.ll_seq.specs.declared.call.Call.{Call}
use Rattle.ll_policy.specs.Calls.{IsProfile}
use Rattle.ll_policy.specs.Faults.{profile_faults}
use Rattle.ll_policy.specs.KeptCalls.{named_calls}
use Rattle.ll_policy.specs.Plan.{Each}
use Rattle.ll_policy.specs.Table.{named_tables}
use Rattle.ll_policy.proofs.profile.read_profiles.Given as goal

abbrev pub invariant-loop-name : goal.invariant-loop-name
invariant-loop-name l = record {
  faults : flat_map profile_faults (named_tables (members_view l.name-iterator))
      ≡ flat_map profile_faults (named_tables (members_view l.table.entries));
  calls : (rest : List (List ℕ × List Call)) → Each IsProfile (named_tables (members_view l.name-iterator)) rest
      → Each IsProfile (named_tables (members_view l.table.entries)) (map named_calls l.profiles.items ++ rest);
}
