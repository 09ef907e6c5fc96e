use Rattle.std.proofs.Common.{◌≡◌, ◌∷◌, [], codes, ap, ap₂, ◌∙◌}
use Rattle.std.specs.List.{concat}
use Rattle.std.proofs.lemmas.Result.{IfOk-weaker}
use Rattle.ll_path.specs.Path.{path_text}
use Rattle.ll_why.specs.Quoted.{json_string}
use Rattle.ll_why.specs.RightsJson.{there_json}
use Rattle.ll_why.proofs.rights_json.profile_json.Goals as goal

pub returns : goal.returns
returns c =
    let path = c.args.path.now in
    let owner : c.as_str-2.result.now ≡ json_string c.args.profile.now =
    c.as_str-2.ensures.value ∙ c.in_ok-profile.ensures in
    let name : c.as_str-3.result.now ≡ json_string (path_text path) =
    c.as_str-3.ensures.value ∙ c.in_ok-name.ensures ∙ ap json_string c.as_str.ensures.text in
    let there : c.as_str-4.result.now ≡ there_json path c.args.told.now =
    c.as_str-4.ensures.value ∙ c.in_ok-there.ensures in
    IfOk-weaker c.concat.result _ _ (λ text e. e
    ∙ ap₂ (λ o n. concat (
    codes "{\"profile\": " ∷ o ∷ codes ", \"path\": " ∷ n ∷ codes ", " ∷ c.as_str-4.result.now ∷ codes "}\n" ∷ []))
    owner name
    ∙ ap (λ t. concat (
    codes "{\"profile\": " ∷ json_string c.args.profile.now ∷ codes ", \"path\": " ∷ json_string (path_text path)
    ∷ codes ", " ∷ t ∷ codes "}\n" ∷ [])) there)
    c.concat.ensures
