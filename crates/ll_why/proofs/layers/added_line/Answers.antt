use Rattle.std.proofs.Common.{◌≡◌, ◌∷◌, [], List, ℕ, codes, ap, ◌∙◌}
use Rattle.std.specs.List.{concat}
use Rattle.std.proofs.lemmas.Result.{IfOk-weaker}
use Rattle.ll_why.specs.Told.{node_text, rights_line}
use Rattle.ll_why.proofs.layers.added_line.Goals as goal

pub returns : goal.returns
returns c =
    let layer = c.args.layer.now in
    let node : c.as_str.result.now ≡ node_text c.args.call.now c.args.asks.now c.args.on =
    c.as_str.ensures.value ∙ c.in_ok-node.ensures in
    let words = c.as_str-2.ensures.value ∙ c.in_ok-words.ensures
    ∙ ap (λ (n : List ℕ). concat (layer ∷ codes " and a rule on " ∷ n ∷ [])) node in
    IfOk-weaker c.rights_line.result _ _ (λ text e. e ∙ ap (λ (w : List ℕ). rights_line w c.args.rights.0) words)
    c.rights_line.ensures
