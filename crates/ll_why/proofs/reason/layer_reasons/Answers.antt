use Rattle.std.proofs.Common.{◌≡◌, ◌+◌, [], ◌∷◌, ◌++◌, take, ap, sym, ◌∙◌}
use Rattle.std.proofs.lemmas.List.{take_more}
use Rattle.ll_why.specs.Reasons.{IsLayerReason}
use Rattle.ll_why.proofs.Sets.{zip_push}
use Rattle.ll_why.proofs.reason.layer_reasons.Goals as goal

pub loop-layer-preserved : goal.loop-layer-preserved
loop-layer-preserved c =
    let i = c.loop-layer.layer-index in
    let layers = c.args.layers.now in
    let layer = c.layer-item.result in
    let last : take (i + 1) layers ≡ take i layers ++ layer ∷ [] =
    take_more layers i layer c.loop-layer-test.true ∙ ap (λ l. take i layers ++ l ∷ []) (sym c.layer-item.is) in
    record {
      so_far = rw (c.in_ok-push_reason.ensures, last)
          (zip_push (λ one l. IsLayerReason c.args.asks.now l one) c.loop-layer.told.items (take i layers)
          c.in_ok-one.one layer c.loop-layer.invariant.so_far c.in_ok-one.ensures);
    }
