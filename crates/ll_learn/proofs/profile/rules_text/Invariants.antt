use Rattle.std.proofs.Common.{◌≡◌, ◌++◌, drop, string_bytes}
use Rattle.std.specs.List.{flat_map}
use Rattle.ll_learn.specs.Profile.{rule_text}
use Rattle.ll_learn.proofs.profile.rules_text.Given as goal

-- what is still to come
abbrev pub invariant-loop-rule : goal.invariant-loop-rule
invariant-loop-rule g l =
    let table = rule_text (g.N.Notes.note l.notes) l.name in
    flat_map table l.rules ≡ string_bytes l.text ++ flat_map table (drop l.rule-index l.rules)
