use Rattle.std.proofs.Common.{◌+◌, ◌++◌, List, drop, map, sym, ap, ◌∙◌, string_bytes}
use Rattle.std.proofs.lemmas.List.{append-nil, drop_all}
use Rattle.ll_policy.specs.declared.profile.Layer.{Layer}
use Rattle.ll_commands.specs.Json.{json_layer}
use Rattle.ll_why.proofs.TextGrowth.{added, from_element}
use Rattle.ll_commands.proofs.json.layers_of.Goals as goal

pub loop-layer-preserved : goal.loop-layer-preserved
loop-layer-preserved c =
    let opening = c.args.opening.now in
    let layers = c.args.layers.now in
    let i = c.loop-layer.layer-index in
    let layer = c.layer-item.result in
    let texts = c.loop-layer.texts.items in
    let split = from_element layers i layer c.loop-layer-test.true c.layer-item.is in
    added (json_layer opening) string_bytes (map (json_layer opening) layers) texts _ c.in_ok-json_layer.field-0 layer
    (drop (i + 1) layers)
    (c.loop-layer.invariant ∙ ap (λ (l : List Layer). map string_bytes texts ++ map (json_layer opening) l) split)
    c.in_ok-push.ensures.items c.in_ok-json_layer.ensures

pub returns : goal.returns
returns c =
    let opening = c.args.opening.now in
    let texts = c.loop-layer.texts.items in
    sym (c.loop-layer.invariant
    ∙ ap (λ (l : List Layer). map string_bytes texts ++ map (json_layer opening) l)
    (drop_all c.loop-layer.layer-index c.args.layers.now c.loop-layer-test.false) ∙ append-nil (map string_bytes texts))
