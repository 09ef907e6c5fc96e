use Rattle.std.proofs.Common.{◌≡◌, ◌++◌, drop, map, string_bytes}
use Rattle.ll_commands.specs.Json.{json_rule}
use Rattle.ll_commands.proofs.json.rules_of.Given as goal

-- what is still to come
abbrev pub invariant-loop-rule : goal.invariant-loop-rule
invariant-loop-rule l =
    map (json_rule l.opening) l.rules
    ≡ map string_bytes l.texts.items ++ map (json_rule l.opening) (drop l.rule-index l.rules)
