use Rattle.std.proofs.Common.{◌≡◌, ◌++◌, drop, map, string_bytes}
use Rattle.ll_why.specs.WhyJson.{layer_json}
use Rattle.ll_why.proofs.layers_json.layer_objects.Given as goal

-- what is still to come
abbrev pub invariant-loop-told : goal.invariant-loop-told
invariant-loop-told l =
    map (layer_json l.call l.asks) l.layers
    ≡ map string_bytes l.objects.items ++ map (layer_json l.call l.asks) (drop l.told-index l.layers)
