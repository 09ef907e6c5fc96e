use Rattle.std.proofs.Common.{◌≡◌, ◌++◌, drop, string_bytes}
use Rattle.std.specs.List.{enumerate_from, flat_map}
use Rattle.ll_why.specs.Table.{behind, ruled_tokens}
use Rattle.ll_why.proofs.table.push_rules.Given as goal

-- what is still to come
abbrev pub invariant-loop-place : goal.invariant-loop-place
invariant-loop-place l =
    string_bytes l.initial.text ++ behind (flat_map (ruled_tokens l.path) (enumerate_from 0 l.rules))
    ≡ string_bytes l.text ++ behind (flat_map (ruled_tokens l.path) (enumerate_from l.place (drop l.place l.rules)))
