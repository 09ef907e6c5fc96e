use Rattle.std.proofs.Common.{◌≡◌, ◌∷◌, [], codes, ap, ap₂, ◌∙◌, List}
use Rattle.std.specs.List.{concat, join_by}
use Rattle.std.proofs.lemmas.Result.{IfOk-weaker}
use Rattle.ll_rights.specs.Kind.{kind_text}
use Rattle.ll_why.specs.declared.grants.Grants.{Grants}
use Rattle.ll_why.specs.Quoted.{json_names}
use Rattle.ll_why.specs.RightsJson.{grants_json}
use Rattle.ll_why.proofs.rights_json.node_json.Goals as goal

pub returns : goal.returns
returns c =
    let told = c.args.told.now in
    let each = λ (layers : List Grants). join_by (grants_json c.args.path.now) (codes ", ") layers in
    let names : c.as_str.result.now ≡ json_names told.rights.0 = c.as_str.ensures.value ∙ c.in_ok-names.ensures in
    let layers : c.as_str-2.result.now ≡ each told.layers.items =
    c.as_str-2.ensures.value ∙ c.in_ok-layers.ensures ∙ ap each c.as_slice.ensures.value in
    IfOk-weaker c.concat.result _ _ (λ text e. e
    ∙ ap₂ (λ k n. concat (
    codes "\"kind\": \"" ∷ k ∷ codes "\", \"rights\": [" ∷ n ∷ codes "], \"layers\": [" ∷ c.as_str-2.result.now
    ∷ codes "]" ∷ [])) c.text.ensures names
    ∙ ap (λ l. concat (
    codes "\"kind\": \"" ∷ kind_text told.kind ∷ codes "\", \"rights\": [" ∷ json_names told.rights.0
    ∷ codes "], \"layers\": [" ∷ l ∷ codes "]" ∷ [])) layers)
    c.concat.ensures
