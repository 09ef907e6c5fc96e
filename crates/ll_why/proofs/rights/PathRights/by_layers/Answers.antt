use Rattle.std.proofs.Common.{◌≡◌, ◌+◌, [], ◌∷◌, ◌++◌, take, ap, sym, ◌∙◌}
use Rattle.std.proofs.lemmas.List.{take_more}
use Rattle.ll_why.proofs.rights.PathRights.by_layers.Goals as goal

pub loop-layer-init : goal.loop-layer-init
loop-layer-init c = record {
  kind = c.start-told.ensures.kind;
  so_far = c.start-told.ensures.layers c.args.inodes.now;
}

pub loop-layer-preserved : goal.loop-layer-preserved
loop-layer-preserved c =
    let i = c.loop-layer.layer-index in
    let layers = c.args.layers.now in
    let layer = c.layer-item.result in
    let last : take (i + 1) layers ≡ take i layers ++ layer ∷ [] =
    take_more layers i layer c.loop-layer-test.true ∙ ap (λ l. take i layers ++ l ∷ []) (sym c.layer-item.is) in
    record {
      kind = c.in_ok-told.ensures.kind ∙ c.loop-layer.invariant.kind;
      so_far = rw last (c.in_ok-told.ensures.layers (take i layers) c.loop-layer.invariant.so_far);
    }
