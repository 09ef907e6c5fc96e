use Rattle.std.specs.Prelude.{ℕ, unwrap_or, bit_or}
use Rattle.std.specs.Ordering.{nat_cmp}
use Rattle.std.proofs.Common.{sym, ap, subst, ◌∙◌}
use Rattle.ll_rights.specs.Map.{Map, get, insert}
use Rattle.ll_rules.specs.Layer.{Layer}
use Rattle.ll_rules.specs.Rules.{with_rule}
use Rattle.ll_rules.specs.RuleTable.{rules_of, HasNoneAbove}
use Rattle.ll_rules.proofs.RuleTables.{IsTable-insert, none_above-insert, rules_of-insert}
use Rattle.ll_rules.proofs.layer.Layer.add_rule.Goals as goal

pub invariant_of-self-2 : goal.invariant_of-self-2
invariant_of-self-2 c = (
  IsTable-insert c.self.inside.rules c.insert.new.self c.args.inode _ c.in_ok-insert.ensures.entries
      c.self.invariant.0,
  subst (λ n. HasNoneAbove n c.insert.new.self) (sym c.max-self-inside.ensures)
      (none_above-insert c.self.inside.rules c.insert.new.self c.args.inode _ c.in_ok-insert.ensures.entries
      c.self.invariant.0 c.self.inside.highest c.self.invariant.1),
)

pub returns-clause-ok : goal.returns-clause-ok
returns-clause-ok c =
    let made : Map nat_cmp ℕ → Layer = λ rules. record { handled = c.self.inside.handled.0; rules = rules } in
    let table : Map nat_cmp ℕ = rules_of c.self.inside.rules in
    ap made (rules_of-insert c.self.inside.rules c.insert.new.self c.args.inode _ c.in_ok-insert.ensures.entries
    c.self.invariant.0
    ∙ ap (λ old. insert table c.args.inode (bit_or old c.args.rights.0)) (c.rule.ensures
    ∙ ap (λ (layer : Layer). unwrap_or (get layer.rules c.args.inode) 0) (sym c.self.view_is)))
    ∙ ap (λ layer. with_rule layer c.args.inode c.args.rights.0) c.self.view_is
