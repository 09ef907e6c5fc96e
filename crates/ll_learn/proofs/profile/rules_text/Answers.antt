use Rattle.std.proofs.Common.{◌+◌, ◌++◌, List, drop, sym, ap, ◌∙◌, string_bytes}
use Rattle.std.specs.List.{flat_map}
use Rattle.std.proofs.lemmas.List.{append-nil, drop_all}
use Rattle.ll_learn.specs.declared.profile.LearnedRule.{LearnedRule}
use Rattle.ll_learn.specs.Profile.{rule_text}
use Rattle.ll_why.proofs.TextGrowth.{came, from_element}
use Rattle.ll_learn.proofs.profile.rules_text.Goals as goal

pub loop-rule-preserved : goal.loop-rule-preserved
loop-rule-preserved g c =
    let table = rule_text (g.N.Notes.note c.args.notes.now) c.args.name.now in
    let rules = c.args.rules.now in
    let i = c.loop-rule.rule-index in
    let rule = c.rule-item.result in
    let text = string_bytes c.loop-rule.text in
    let split = from_element rules i rule c.loop-rule-test.true c.rule-item.is in
    came (flat_map table rules) text _ (table rule) (flat_map table (drop (i + 1) rules))
    (c.loop-rule.invariant ∙ ap (λ (l : List LearnedRule). text ++ flat_map table l) split)
    (c.in_ok-push_str.ensures.bytes ∙ ap (λ l. text ++ l) (c.as_str.ensures.value ∙ c.in_ok-table.ensures))

pub returns : goal.returns
returns g c =
    let table = rule_text (g.N.Notes.note c.args.notes.now) c.args.name.now in
    let text = string_bytes c.loop-rule.text in
    sym (c.loop-rule.invariant
    ∙ ap (λ (l : List LearnedRule). text ++ flat_map table l)
    (drop_all c.loop-rule.rule-index c.args.rules.now c.loop-rule-test.false) ∙ append-nil text)
