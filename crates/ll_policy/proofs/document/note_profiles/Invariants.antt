use Rattle.std.proofs.Common.{◌≡◌, ◌++◌, map}
use Rattle.std.specs.Prelude.{flat_map}
use Rattle.toml.specs.View.{members_view}
use Rattle.ll_policy.specs.Places.{in_profile, placed}
use Rattle.ll_policy.specs.Table.{named_tables}
use Rattle.ll_policy.proofs.document.note_profiles.Given as goal

abbrev pub invariant-loop-name : goal.invariant-loop-name
invariant-loop-name l =
    map placed l.found.items ++ flat_map in_profile (named_tables (members_view l.name-iterator))
    ≡ map placed l.fn.found.items ++ flat_map in_profile (named_tables (members_view l.table.entries))
