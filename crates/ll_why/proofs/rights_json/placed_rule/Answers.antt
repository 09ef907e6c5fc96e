use Rattle.std.proofs.Common.{ℕ, List, ap, ◌∙◌}
use Rattle.std.proofs.lemmas.Result.{IfOk-weaker}
use Rattle.ll_why.specs.RightsJson.{rule_json}
use Rattle.ll_why.proofs.rights_json.placed_rule.Goals as goal

pub returns : goal.returns
returns c =
    IfOk-weaker c.rule_json.result _ _ (λ text e. e
    ∙ ap (λ (node : List ℕ). rule_json node c.args.rights.0) (c.as_str.ensures.value ∙ c.in_ok-node.ensures))
    c.rule_json.ensures
