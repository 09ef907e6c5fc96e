use Rattle.std.proofs.Common.{◌≡◌}
use Rattle.toml.specs.View.{members_view}
use Rattle.ll_policy.specs.Table.{hold_tables}
use Rattle.ll_policy.proofs.table.hold_tables.Given as goal

abbrev pub invariant-loop-value : goal.invariant-loop-value
invariant-loop-value l = hold_tables (members_view l.value-iterator) ≡ hold_tables (members_view l.table.entries)
