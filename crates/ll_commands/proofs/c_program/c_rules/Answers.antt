use Rattle.std.proofs.Common.{◌+◌, ◌++◌, List, drop, sym, ap, ◌∙◌, string_bytes}
use Rattle.std.specs.List.{flat_map}
use Rattle.std.proofs.lemmas.List.{append-nil, drop_all}
use Rattle.ll_policy.specs.declared.profile.Rule.{Rule}
use Rattle.ll_commands.specs.CProgram.{c_rule}
use Rattle.ll_why.proofs.TextGrowth.{came, from_element}
use Rattle.ll_commands.proofs.c_program.c_rules.Goals as goal

pub loop-rule-preserved : goal.loop-rule-preserved
loop-rule-preserved c =
    let opening = c.args.opening.now in
    let rules = c.args.rules.now in
    let i = c.loop-rule.rule-index in
    let rule = c.rule-item.result in
    let text = string_bytes c.loop-rule.text in
    let split = from_element rules i rule c.loop-rule-test.true c.rule-item.is in
    came (flat_map (c_rule opening) rules) text _ (c_rule opening rule) (flat_map (c_rule opening) (drop (i + 1) rules))
    (c.loop-rule.invariant ∙ ap (λ (l : List Rule). text ++ flat_map (c_rule opening) l) split)
    (c.in_ok-push_str.ensures.bytes ∙ ap (λ l. text ++ l) (c.as_str.ensures.value ∙ c.in_ok-row.ensures))

pub returns : goal.returns
returns c =
    let opening = c.args.opening.now in
    let text = string_bytes c.loop-rule.text in
    sym (c.loop-rule.invariant
    ∙ ap (λ (l : List Rule). text ++ flat_map (c_rule opening) l)
    (drop_all c.loop-rule.rule-index c.args.rules.now c.loop-rule-test.false) ∙ append-nil text)
