use Rattle.std.proofs.Common.{◌≡◌, ◌∷◌, [], List, ℕ, codes, take, ap, ◌∙◌}
use Rattle.std.specs.List.{concat}
use Rattle.std.proofs.lemmas.Result.{IfOk-weaker}
use Rattle.ll_path.specs.Path.{path_text}
use Rattle.ll_why.specs.Told.{path_on, rights_line}
use Rattle.ll_why.proofs.layers.rule_line.Goals as goal

pub returns : goal.returns
returns c =
    let start = c.args.start.now in
    let rights = c.args.rule.rights.0 in
    let node : c.as_str.result.now ≡ path_text (take c.args.place (path_on c.args.call.now c.args.on)) =
    c.as_str.ensures.value ∙ c.in_ok-node.ensures in
    let words = c.as_str-2.ensures.value ∙ c.in_ok-words.ensures
    ∙ ap (λ (n : List ℕ). concat (start ∷ codes ", by the rule on " ∷ n ∷ [])) node in
    IfOk-weaker c.rights_line.result _ _ (λ text e. e ∙ ap (λ (w : List ℕ). rights_line w rights) words)
    c.rights_line.ensures
