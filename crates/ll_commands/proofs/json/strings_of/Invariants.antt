use Rattle.std.proofs.Common.{◌≡◌, ◌++◌, drop, map, string_bytes}
use Rattle.ll_why.specs.Quoted.{json_string}
use Rattle.ll_commands.proofs.json.strings_of.Given as goal

-- what is still to come
abbrev pub invariant-loop-text : goal.invariant-loop-text
invariant-loop-text l = map json_string (map (λ t. t.now) l.told)
    ≡ map string_bytes l.texts.items ++ map json_string (map (λ t. t.now) (drop l.text-index l.told))
