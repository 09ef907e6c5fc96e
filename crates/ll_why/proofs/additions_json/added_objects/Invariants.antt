use Rattle.std.proofs.Common.{◌≡◌, ◌++◌, drop, map, string_bytes}
use Rattle.std.specs.List.{flat_map}
use Rattle.ll_why.specs.Changes.{rule_on}
use Rattle.ll_why.specs.WhyJson.{added_json}
use Rattle.ll_why.proofs.additions_json.added_objects.Given as goal

-- what is still to come
abbrev pub invariant-loop-on : goal.invariant-loop-on
invariant-loop-on l =
    flat_map (λ on. added_json l.call l.asks on (rule_on l.change on).rights.0) l.each
    ≡ map string_bytes l.objects.items
    ++ flat_map (λ on. added_json l.call l.asks on (rule_on l.change on).rights.0) (drop l.on-index l.each)
