use Rattle.std.proofs.Common.{◌≡◌, ◌∷◌, [], codes, ap, ap₂, ◌∙◌, map, string_bytes, List, String}
use Rattle.std.specs.List.{concat, join_by}
use Rattle.std.specs.declared.alloc.Global.{Global}
use Rattle.std.proofs.lemmas.Result.{IfOk-weaker}
use Rattle.ll_policy.specs.declared.profile.Rule.{Rule}
use Rattle.ll_commands.specs.Json.{json_rule}
use Rattle.ll_why.specs.Quoted.{json_names}
use Rattle.ll_why.proofs.TextGrowth.{joined_parts}
use Rattle.ll_commands.proofs.json.json_layer.Goals as goal

pub returns : goal.returns
returns c =
    let opening = c.args.opening.now in
    let rules = c.args.layer.now.rules.items in
    let handled : c.as_str.result.now ≡ json_names c.args.layer.now.handled.0 =
    c.as_str.ensures.value ∙ c.in_ok-handled.ensures in
    let same : map string_bytes c.as_slice-2.result.now ≡ map (json_rule opening) rules =
    ap (λ (l : List (String Global)). map string_bytes l) c.as_slice-2.ensures.value ∙ c.in_ok-texts.ensures
    ∙ ap (λ (l : List Rule). map (json_rule opening) l) c.as_slice.ensures.value in
    let told : c.as_str-2.result.now ≡ join_by (json_rule opening) (codes ",\n") rules =
    c.as_str-2.ensures.value ∙ c.in_ok-rules.ensures
    ∙ joined_parts (json_rule opening) string_bytes (codes ",\n") rules c.as_slice-2.result.now same in
    IfOk-weaker c.concat.result _ _ (λ text e. e
    ∙ ap₂ (λ h r. concat (
    codes "    {\"handled\": [" ∷ h ∷ codes "], \"rules\": [\n" ∷ r ∷ codes "\n    ]}" ∷ [])) handled told)
    c.concat.ensures
