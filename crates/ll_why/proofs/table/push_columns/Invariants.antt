use Rattle.std.proofs.Common.{◌≡◌, ◌++◌, drop, string_bytes}
use Rattle.std.specs.List.{flat_map}
use Rattle.ll_why.specs.Table.{behind, column_tokens}
use Rattle.ll_why.proofs.table.push_columns.Given as goal

-- what is still to come
abbrev pub invariant-loop-grants : goal.invariant-loop-grants
invariant-loop-grants l =
    string_bytes l.initial.text ++ behind (flat_map (column_tokens l.path) l.layers)
    ≡ string_bytes l.text ++ behind (flat_map (column_tokens l.path) (drop l.grants-index l.layers))
