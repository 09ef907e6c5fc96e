use Rattle.std.proofs.Common.{◌+◌, ◌++◌, List, drop, sym, ap, ◌∙◌, string_bytes}
use Rattle.std.specs.List.{flat_map}
use Rattle.std.proofs.lemmas.List.{append-nil, drop_all}
use Rattle.ll_policy.specs.declared.profile.Layer.{Layer}
use Rattle.ll_commands.specs.CProgram.{c_layer}
use Rattle.ll_why.proofs.TextGrowth.{came, from_element}
use Rattle.ll_commands.proofs.c_program.c_layers.Goals as goal

pub loop-layer-preserved : goal.loop-layer-preserved
loop-layer-preserved c =
    let opening = c.args.opening.now in
    let layers = c.args.layers.now in
    let i = c.loop-layer.layer-index in
    let layer = c.layer-item.result in
    let text = string_bytes c.loop-layer.text in
    let split = from_element layers i layer c.loop-layer-test.true c.layer-item.is in
    came (flat_map (c_layer opening) layers) text _ (c_layer opening layer)
    (flat_map (c_layer opening) (drop (i + 1) layers))
    (c.loop-layer.invariant ∙ ap (λ (l : List Layer). text ++ flat_map (c_layer opening) l) split)
    (c.in_ok-push_str.ensures.bytes ∙ ap (λ l. text ++ l) (c.as_str.ensures.value ∙ c.in_ok-rows.ensures))

pub returns : goal.returns
returns c =
    let opening = c.args.opening.now in
    let text = string_bytes c.loop-layer.text in
    sym (c.loop-layer.invariant
    ∙ ap (λ (l : List Layer). text ++ flat_map (c_layer opening) l)
    (drop_all c.loop-layer.layer-index c.args.layers.now c.loop-layer-test.false) ∙ append-nil text)
