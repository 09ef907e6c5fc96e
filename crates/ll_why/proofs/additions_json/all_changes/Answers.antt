use Rattle.std.proofs.Common.{◌≡◌, ◌∷◌, [], codes, ap, ◌∙◌, map, string_bytes, List, String}
use Rattle.std.specs.List.{concat}
use Rattle.std.specs.declared.alloc.Global.{Global}
use Rattle.std.proofs.lemmas.Result.{IfOk-weaker}
use Rattle.ll_why.specs.Quoted.{listed}
use Rattle.ll_why.specs.WhyJson.{change_json}
use Rattle.ll_why.proofs.additions_json.all_changes.Goals as goal

pub returns : goal.returns
returns c =
    let same = ap (λ (l : List (String Global)). map string_bytes l) c.as_slice.ensures.value
    ∙ c.in_ok-objects.ensures in
    let text : c.as_str.result.now ≡ listed (map (change_json c.args.call.now c.args.asks.now) c.args.changes.now) =
    c.as_str.ensures.value ∙ c.in_ok-text.ensures ∙ ap listed same in
    IfOk-weaker c.concat.result _ _ (λ whole e. e ∙ (λ i. concat (codes "[" ∷ text i ∷ codes "]" ∷ [])))
    c.concat.ensures
