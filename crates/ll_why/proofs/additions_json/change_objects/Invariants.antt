use Rattle.std.proofs.Common.{◌≡◌, ◌++◌, drop, map, string_bytes}
use Rattle.ll_why.specs.WhyJson.{change_json}
use Rattle.ll_why.proofs.additions_json.change_objects.Given as goal

-- what is still to come
abbrev pub invariant-loop-change : goal.invariant-loop-change
invariant-loop-change l =
    map (change_json l.call l.asks) l.changes
    ≡ map string_bytes l.objects.items ++ map (change_json l.call l.asks) (drop l.change-index l.changes)
