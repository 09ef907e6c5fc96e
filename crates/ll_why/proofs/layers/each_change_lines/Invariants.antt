use Rattle.std.proofs.Common.{◌≡◌, ◌+◌, ◌++◌, drop, string_bytes}
use Rattle.std.specs.List.{enumerate_from, flat_map}
use Rattle.ll_why.specs.Told.{change_lines}
use Rattle.ll_why.proofs.layers.each_change_lines.Given as goal

-- what is still to come
abbrev pub invariant-loop-index : goal.invariant-loop-index
invariant-loop-index l =
    flat_map (change_lines l.call l.asks) (enumerate_from 1 l.changes)
    ≡ string_bytes l.text
    ++ flat_map (change_lines l.call l.asks) (enumerate_from (l.index + 1) (drop l.index l.changes))
