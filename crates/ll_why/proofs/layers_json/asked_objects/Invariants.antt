use Rattle.std.proofs.Common.{◌≡◌, ◌++◌, drop, map, string_bytes}
use Rattle.std.specs.List.{flat_map}
use Rattle.ll_why.specs.WhyJson.{asked_json}
use Rattle.ll_why.proofs.layers_json.asked_objects.Given as goal

-- what is still to come
abbrev pub invariant-loop-on : goal.invariant-loop-on
invariant-loop-on l =
    flat_map (asked_json l.call l.asks) l.each
    ≡ map string_bytes l.objects.items ++ flat_map (asked_json l.call l.asks) (drop l.on-index l.each)
