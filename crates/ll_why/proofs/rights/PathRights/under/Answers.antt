use Rattle.std.specs.Prelude.{◌&&◌, not, [], ◌∷◌, ◌++◌}
use Rattle.std.specs.List.{AllZip, list_all}
use Rattle.std.proofs.Common.{ap, sym, subst, ◌∙◌, arith}
use Rattle.std.proofs.lemmas.List.Folds.{list_all-append}
use Rattle.ll_rights.specs.Access.{holds}
use Rattle.ll_rules.specs.Layer.{grants_on}
use Rattle.ll_why.specs.Grants.{AreGrants}
use Rattle.ll_why.proofs.Sets.{all_more, zip_push}
use Rattle.ll_why.proofs.rights.PathRights.under.Goals as goal

pub returns-in-Ok-clause-layers : goal.returns-in-Ok-clause-layers
returns-in-Ok-clause-layers c layers old =
    let layer = c.args.layer.now in
    let inodes = c.args.inodes.now in
    let all = c.args.all.0 in
    let granted = c.in_ok-grants.ensures in
    record {
      fewer = omega (arith, c.without-self.ensures.fewer, old.fewer);
      rights = λ right known.
          c.without-self.ensures.rights right known
          ∙ ap (λ b. b && not (holds c.in_ok-grants.grants.missing.0 right)) (old.rights right known)
          ∙ ap (λ b. (holds all right && list_all (λ l. grants_on l inodes right) layers) && not b)
          (granted.missing right known)
          ∙ all_more (holds all right) (list_all (λ l. grants_on l inodes right) layers) (grants_on layer inodes right)
          ∙ ap (λ b. holds all right && b) (sym (list_all-append (λ l. grants_on l inodes right) layers (layer ∷ [])));
      layers = subst (λ gs. AllZip (λ g l. AreGrants l inodes all g) gs (layers ++ layer ∷ []))
          (sym c.in-Ok.ensures.items)
          (zip_push (λ g l. AreGrants l inodes all g) c.args.self.layers.items layers c.in_ok-grants.grants layer
          old.layers granted);
    }
