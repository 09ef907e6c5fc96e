use Rattle.std.proofs.Common.{◌≡◌, ◌+◌, ◌++◌, ◌∷◌, List, drop, ap, sym, ◌∙◌, string_bytes}
use Rattle.std.specs.List.{enumerate_from, flat_map}
use Rattle.std.proofs.lemmas.List.{append-nil, drop_all}
use Rattle.ll_why.specs.declared.reason.LayerReason.{LayerReason}
use Rattle.ll_why.specs.Told.{layer_lines}
use Rattle.ll_why.proofs.TextGrowth.{came, from_element}
use Rattle.ll_why.proofs.layers.all_layer_lines.Goals as goal

pub loop-index-preserved : goal.loop-index-preserved
loop-index-preserved c =
    let all = c.args.layers.now in
    let i = c.loop-index.index in
    let one = c.index-layers-index.result in
    let lines = layer_lines c.args.call.now c.args.asks.now in
    let text = string_bytes c.loop-index.text in
    let split : drop i all ≡ one ∷ drop (i + 1) all =
    from_element all i one c.loop-index-test.true c.index-layers-index.is in
    came (flat_map lines (enumerate_from 1 all)) text _ (lines (i + 1, one))
    (flat_map lines (enumerate_from (i + 1 + 1) (drop (i + 1) all)))
    (c.loop-index.invariant ∙ ap (λ (l : List LayerReason). text ++ flat_map lines (enumerate_from (i + 1) l)) split)
    (c.in_ok-push_str.ensures.bytes ∙ ap (λ l. text ++ l) (c.as_str.ensures.value ∙ c.in_ok-lines.ensures))

pub returns : goal.returns
returns c =
    let all = c.args.layers.now in
    let i = c.loop-index.index in
    let lines = layer_lines c.args.call.now c.args.asks.now in
    let text = string_bytes c.loop-index.text in
    sym (c.loop-index.invariant
    ∙ ap (λ (l : List LayerReason). text ++ flat_map lines (enumerate_from (i + 1) l))
    (drop_all i all c.loop-index-test.false) ∙ append-nil text)
