use Rattle.std.proofs.Common.{◌≡◌, ◌++◌, drop, string_bytes}
use Rattle.std.specs.List.{enumerate_from, flat_map}
use Rattle.ll_why.specs.Told.{path_on, rule_line}
use Rattle.ll_why.proofs.layers.rule_lines.Given as goal

-- what is still to come
abbrev pub invariant-loop-place : goal.invariant-loop-place
invariant-loop-place l =
    flat_map (rule_line l.start (path_on l.call l.on)) (enumerate_from 0 l.rules)
    ≡ string_bytes l.text
    ++ flat_map (rule_line l.start (path_on l.call l.on)) (enumerate_from l.place (drop l.place l.rules))
