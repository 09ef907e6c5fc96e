use Rattle.std.proofs.Common.{◌≡◌, ◌++◌, drop, map, string_bytes}
use Rattle.std.specs.List.{enumerate_from, flat_map}
use Rattle.ll_seq.specs.Found.{or_root}
use Rattle.ll_why.specs.RightsJson.{ruled_json}
use Rattle.ll_why.proofs.rights_json.rules_of.Given as goal

-- what is still to come
abbrev pub invariant-loop-place : goal.invariant-loop-place
invariant-loop-place l =
    flat_map (ruled_json (or_root l.path)) (enumerate_from 0 l.rules)
    ≡ map string_bytes l.texts.items
    ++ flat_map (ruled_json (or_root l.path)) (enumerate_from l.place (drop l.place l.rules))
