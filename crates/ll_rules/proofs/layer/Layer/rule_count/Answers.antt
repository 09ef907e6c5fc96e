use Rattle.std.proofs.Common.{sym, ap, ◌∙◌}
use Rattle.ll_rights.specs.Map.{len}
use Rattle.ll_rules.specs.Layer.{Layer}
use Rattle.ll_rules.proofs.RuleTables.{length-rules_of}
use Rattle.ll_rules.proofs.layer.Layer.rule_count.Goals as goal

pub returns : goal.returns
returns c =
    c.len.ensures.len
    ∙ sym (length-rules_of c.self.inside.rules c.self.invariant.0)
    ∙ ap (λ (layer : Layer). len layer.rules) c.self.view_is
