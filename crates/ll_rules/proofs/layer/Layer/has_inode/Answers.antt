use Rattle.std.specs.Prelude.{◌≡◌, Option, is_some, Some, None, refl}
use Rattle.std.specs.Option.{option_map}
use Rattle.std.proofs.Common.{sym, ap, ◌∙◌}
use Rattle.ll_rights.specs.Map.{has}
use Rattle.ll_rules.specs.Layer.{Layer}
use Rattle.ll_rules.proofs.RuleTables.{get-rules_of}
use Rattle.ll_rules.proofs.layer.Layer.has_inode.Goals as goal

is_some-map : {A B : Type 0} (f : A → B) (o : Option A) → is_some o ≡ is_some (option_map f o)
is_some-map f None = refl
is_some-map f (Some x) = refl

pub returns : goal.returns
returns c =
    c.contains_key.ensures
    ∙ is_some-map _ _
    ∙ ap is_some (sym (get-rules_of c.self.inside.rules c.args.inode c.self.invariant.0))
    ∙ ap (λ (layer : Layer). has layer.rules c.args.inode) c.self.view_is
