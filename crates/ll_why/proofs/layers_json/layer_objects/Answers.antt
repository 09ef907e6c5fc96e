use Rattle.std.proofs.Common.{◌+◌, ◌++◌, List, drop, map, sym, ap, ◌∙◌, string_bytes}
use Rattle.std.proofs.lemmas.List.{append-nil, drop_all}
use Rattle.ll_why.specs.declared.reason.LayerReason.{LayerReason}
use Rattle.ll_why.specs.WhyJson.{layer_json}
use Rattle.ll_why.proofs.TextGrowth.{added, from_element}
use Rattle.ll_why.proofs.layers_json.layer_objects.Goals as goal

pub loop-told-preserved : goal.loop-told-preserved
loop-told-preserved c =
    let object = layer_json c.args.call.now c.args.asks.now in
    let all = c.args.layers.now in
    let i = c.loop-told.told-index in
    let one = c.told-item.result in
    let objects = c.loop-told.objects.items in
    let split = from_element all i one c.loop-told-test.true c.told-item.is in
    added object string_bytes (map object all) objects _ c.in_ok-layer_json.field-0 one (drop (i + 1) all)
    (c.loop-told.invariant ∙ ap (λ (l : List LayerReason). map string_bytes objects ++ map object l) split)
    c.in_ok-push.ensures.items c.in_ok-layer_json.ensures

pub returns : goal.returns
returns c =
    let object = layer_json c.args.call.now c.args.asks.now in
    let objects = map string_bytes c.loop-told.objects.items in
    sym (c.loop-told.invariant
    ∙ ap (λ (l : List LayerReason). objects ++ map object l)
    (drop_all c.loop-told.told-index c.args.layers.now c.loop-told-test.false) ∙ append-nil objects)
