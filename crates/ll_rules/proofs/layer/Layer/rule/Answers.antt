use Rattle.std.specs.Prelude.{◌≡◌, Option, None, Some, unwrap_or, refl}
use Rattle.std.specs.Option.{option_map}
use Rattle.std.specs.Ordering.{nat_cmp}
use Rattle.std.specs.BTreeMap.{get_by}
use Rattle.std.proofs.Common.{sym, ap, ◌∙◌}
use Rattle.ll_rights.specs.declared.access.Access.{Access}
use Rattle.ll_rights.specs.Map.{get}
use Rattle.ll_rules.specs.Layer.{Layer}
use Rattle.ll_rules.proofs.RuleTables.{get-rules_of}
use Rattle.ll_rules.proofs.layer.Layer.rule.Goals as goal

set-unwrap_or : (found : Option Access)
    → (unwrap_or found (record { 0 = 0 })).0 ≡ unwrap_or (option_map (λ (rights : Access). rights.0) found) 0
set-unwrap_or None = refl
set-unwrap_or (Some rights) = refl

pub returns : goal.returns
returns c =
    ap (λ (rights : Access). rights.0) (c.unwrap_or.ensures
    ∙ ap (λ found. unwrap_or found (record { 0 = 0 })) (c.copied.ensures ∙ c.get.ensures.value))
    ∙ set-unwrap_or (get_by (nat_cmp c.args.inode) c.self.inside.rules)
    ∙ ap (λ o. unwrap_or o 0) (sym (get-rules_of c.self.inside.rules c.args.inode c.self.invariant.0))
    ∙ ap (λ (layer : Layer). unwrap_or (get layer.rules c.args.inode) 0) c.self.view_is
