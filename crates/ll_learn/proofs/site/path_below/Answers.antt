use Rattle.std.proofs.Common.{◌≡◌, ◌∙◌, ◌++◌, ◌∷◌, [], Option, Some, None, string_bytes}
use Rattle.std.specs.Prelude.{IfSome}
use Rattle.ll_path.specs.Path.{Path}
use Rattle.ll_learn.proofs.SpeltPaths.{unspelt}
use Rattle.ll_learn.proofs.site.path_below.Goals as goal

also_so : (found : Option Path) (x y : Path) → IfSome found (λ path. path ≡ x) → x ≡ y
    → IfSome found (λ path. path ≡ y)
also_so None x y is e = tt
also_so (Some path) x y is e = is ∙ e

pub returns-clause-some : goal.returns-clause-some
returns-clause-some c = also_so c.path_of.result _ _ c.path_of.ensures.some c.in_ok-text_below.ensures.path

pub returns-clause-none : goal.returns-clause-none
returns-clause-none c none =
    unspelt (c.args.path.now ++ c.args.name.now ∷ []) (string_bytes c.in_ok-text_below.field-0)
    c.in_ok-text_below.ensures.text (c.path_of.ensures.none none)
