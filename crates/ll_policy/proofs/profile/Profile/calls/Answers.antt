use Rattle.std.proofs.Common.{◌≡◌, ◌+◌, ◌++◌, ◌∷◌, [], length, take, sym, ap, ◌∙◌, arith}
use Rattle.std.proofs.lemmas.List.{take_more, length-take-le}
use Rattle.ll_policy.specs.KeptCalls.{calls_of_layer, calls_of_layers}
use Rattle.ll_policy.proofs.TablesRead.{calls_of_layers-append, one_layer}
use Rattle.ll_policy.proofs.profile.Profile.calls.Goals as goal

pub loop-layer-preserved : goal.loop-layer-preserved
loop-layer-preserved c =
    let layers = c.deref-layer-items.result.now in
    let i = c.loop-layer.layer-index in
    let layer = c.layer-item.result in
    let before = take i layers in
    let (number, calls) = c.loop-layer.invariant in
    let here : length before ≡ i = length-take-le i layers (omega arith) in
    let whole : take (i + 1) layers ≡ before ++ layer ∷ [] =
    take_more layers i layer c.loop-layer-test.true ∙ ap (λ l. before ++ l ∷ []) (sym c.layer-item.is) in
    let named : 0 + length before ≡ c.loop-layer.number = omega (arith, here, number) in
    let last : calls_of_layers (0 + length before) (layer ∷ []) ≡ calls_of_layer c.loop-layer.number layer =
    ap (λ n. calls_of_layers n (layer ∷ [])) named ∙ one_layer c.loop-layer.number layer in (
      omega arith,
      c.in_ok-push_calls.ensures ∙ ap (λ some. some ++ calls_of_layer c.loop-layer.number layer) calls
          ∙ ap (λ some. calls_of_layers 0 before ++ some) (sym last)
          ∙ sym (calls_of_layers-append 0 before (layer ∷ [])) ∙ ap (calls_of_layers 0) (sym whole),
    )
