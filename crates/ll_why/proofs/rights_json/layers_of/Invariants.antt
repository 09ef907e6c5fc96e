use Rattle.std.proofs.Common.{◌≡◌, ◌++◌, drop, map, string_bytes}
use Rattle.ll_why.specs.RightsJson.{grants_json}
use Rattle.ll_why.proofs.rights_json.layers_of.Given as goal

-- what is still to come
abbrev pub invariant-loop-grants : goal.invariant-loop-grants
invariant-loop-grants l =
    map (grants_json l.path) l.layers
    ≡ map string_bytes l.texts.items ++ map (grants_json l.path) (drop l.grants-index l.layers)
