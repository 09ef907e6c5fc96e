use Rattle.std.proofs.Common.{◌≡◌, ◌∷◌, [], codes, ap, ◌∙◌, List}
use Rattle.std.specs.List.{concat, enumerate_from, flat_map, join_by}
use Rattle.std.proofs.lemmas.Result.{IfOk-weaker}
use Rattle.ll_why.specs.declared.grants.Ruled.{Ruled}
use Rattle.ll_seq.specs.Found.{or_root}
use Rattle.ll_why.specs.Quoted.{json_names}
use Rattle.ll_why.specs.RightsJson.{ruled_json}
use Rattle.ll_why.proofs.rights_json.grants_fields.Goals as goal

pub returns : goal.returns
returns c =
    let g = c.args.grants.now in
    let each = λ (rules : List Ruled). join_by (λ t. t) (codes ", ")
    (flat_map (ruled_json (or_root c.args.path)) (enumerate_from 0 rules)) in
    let free : c.as_str.result.now ≡ json_names g.free.0 = c.as_str.ensures.value ∙ c.in_ok-free.ensures in
    let rules : c.as_str-2.result.now ≡ each g.ruled.items =
    c.as_str-2.ensures.value ∙ c.in_ok-rules.ensures ∙ ap each c.as_slice.ensures.value in
    let missing : c.as_str-3.result.now ≡ json_names g.missing.0 = c.as_str-3.ensures.value ∙ c.in_ok-missing.ensures in
    IfOk-weaker c.concat.result _ _ (λ text e. e
    ∙ (λ i. concat (
    codes "\"unrestricted\": [" ∷ free i ∷ codes "], \"rules\": [" ∷ rules i ∷ codes "], \"missing\": [" ∷ missing i
    ∷ codes "]" ∷ [])))
    c.concat.ensures
