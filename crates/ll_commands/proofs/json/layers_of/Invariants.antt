use Rattle.std.proofs.Common.{◌≡◌, ◌++◌, drop, map, string_bytes}
use Rattle.ll_commands.specs.Json.{json_layer}
use Rattle.ll_commands.proofs.json.layers_of.Given as goal

-- what is still to come
abbrev pub invariant-loop-layer : goal.invariant-loop-layer
invariant-loop-layer l =
    map (json_layer l.opening) l.layers
    ≡ map string_bytes l.texts.items ++ map (json_layer l.opening) (drop l.layer-index l.layers)
