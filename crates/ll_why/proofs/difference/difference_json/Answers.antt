use Rattle.std.proofs.Common.{◌≡◌, ◌∷◌, [], codes, ap, ap₂, ◌∙◌}
use Rattle.std.specs.List.{concat}
use Rattle.std.proofs.lemmas.Result.{IfOk-weaker}
use Rattle.ll_path.specs.Path.{path_text}
use Rattle.ll_why.specs.Quoted.{json_string}
use Rattle.ll_why.specs.RightsJson.{there_json}
use Rattle.ll_why.proofs.difference.difference_json.Goals as goal

pub returns : goal.returns
returns c =
    let path = c.args.path.now in
    let name : c.as_str-2.result.now ≡ json_string (path_text path) =
    c.as_str-2.ensures.value ∙ c.in_ok-name.ensures ∙ ap json_string c.as_str.ensures.text in
    let was : c.as_str-3.result.now ≡ there_json path c.args.old.now =
    c.as_str-3.ensures.value ∙ c.in_ok-was.ensures in
    let is : c.as_str-4.result.now ≡ there_json path c.args.new.now =
    c.as_str-4.ensures.value ∙ c.in_ok-is.ensures in
    IfOk-weaker c.concat.result _ _ (λ text e. e
    ∙ ap₂ (λ n o. concat (
    codes "{\"path\": " ∷ n ∷ codes ", \"old\": {" ∷ o ∷ codes "}, \"new\": {" ∷ c.as_str-4.result.now
    ∷ codes "}}\n" ∷ [])) name was
    ∙ ap (λ m. concat (
    codes "{\"path\": " ∷ json_string (path_text path) ∷ codes ", \"old\": {" ∷ there_json path c.args.old.now
    ∷ codes "}, \"new\": {" ∷ m ∷ codes "}}\n" ∷ [])) is)
    c.concat.ensures
