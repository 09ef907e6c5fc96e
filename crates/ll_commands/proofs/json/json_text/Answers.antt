use Rattle.std.proofs.Common.{◌≡◌, ◌∷◌, [], codes, ap, ap₂, ◌∙◌}
use Rattle.std.specs.List.{concat, join_by}
use Rattle.std.proofs.lemmas.Result.{IfOk-weaker}
use Rattle.ll_program.specs.Options.{exported_in}
use Rattle.ll_commands.specs.Json.{json_head, json_layer, json_options, json_text}
use Rattle.ll_commands.proofs.json.json_text.Goals as goal

pub returns : goal.returns
unfolding json_text
returns c =
    let it = c.args.confinement.now in
    let order = exported_in c.args.options.now in
    let head : c.as_str.result.now ≡ json_head order it.abi = c.as_str.ensures.value ∙ c.in_ok-head.ensures in
    let told : c.as_str-2.result.now ≡ json_options order = c.as_str-2.ensures.value ∙ c.in_ok-told.ensures in
    let layers : c.as_str-3.result.now ≡ join_by (json_layer it.opening.now) (codes ",\n") it.layers.now =
    c.as_str-3.ensures.value ∙ c.in_ok-layers.ensures in
    IfOk-weaker c.concat.result _ _ (λ text e. e
    ∙ ap₂ (λ h t. concat (
    h ∷ t ∷ codes "  \"layers\": [\n" ∷ c.as_str-3.result.now ∷ codes "\n  ]\n}\n" ∷ [])) head told
    ∙ ap (λ l. concat (
    json_head order it.abi ∷ json_options order ∷ codes "  \"layers\": [\n" ∷ l ∷ codes "\n  ]\n}\n" ∷ [])) layers)
    c.concat.ensures
