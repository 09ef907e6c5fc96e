use Rattle.std.proofs.Common.{◌+◌, ◌++◌, List, drop, map, sym, ap, ◌∙◌, string_bytes}
use Rattle.std.proofs.lemmas.List.{append-nil, drop_all}
use Rattle.ll_policy.specs.declared.profile.Rule.{Rule}
use Rattle.ll_commands.specs.Json.{json_rule}
use Rattle.ll_why.proofs.TextGrowth.{added, from_element}
use Rattle.ll_commands.proofs.json.rules_of.Goals as goal

pub loop-rule-preserved : goal.loop-rule-preserved
loop-rule-preserved c =
    let opening = c.args.opening.now in
    let rules = c.args.rules.now in
    let i = c.loop-rule.rule-index in
    let rule = c.rule-item.result in
    let texts = c.loop-rule.texts.items in
    let split = from_element rules i rule c.loop-rule-test.true c.rule-item.is in
    added (json_rule opening) string_bytes (map (json_rule opening) rules) texts _ c.in_ok-json_rule.field-0 rule
    (drop (i + 1) rules)
    (c.loop-rule.invariant ∙ ap (λ (l : List Rule). map string_bytes texts ++ map (json_rule opening) l) split)
    c.in_ok-push.ensures.items c.in_ok-json_rule.ensures

pub returns : goal.returns
returns c =
    let opening = c.args.opening.now in
    let texts = c.loop-rule.texts.items in
    sym (c.loop-rule.invariant
    ∙ ap (λ (l : List Rule). map string_bytes texts ++ map (json_rule opening) l)
    (drop_all c.loop-rule.rule-index c.args.rules.now c.loop-rule-test.false) ∙ append-nil (map string_bytes texts))
