use Rattle.std.proofs.Common.{◌≡◌, ℕ, ◌+◌, List, [], ◌∷◌, ◌++◌, length, take, ap, sym, subst, ◌∙◌, arith, length-append}
use Rattle.std.proofs.lemmas.List.{take_more}
use Rattle.ll_decide.specs.Masks.{AreMasks}
use Rattle.ll_decide.proofs.Carried.{masks-push}
use Rattle.ll_why.proofs.reason.masks_on.Goals as goal

pub loop-layer-init : goal.loop-layer-init
loop-layer-init c = record {
  so_far = subst (λ (ms : List ℕ). AreMasks ms [] c.args.inodes.now) (sym c.empty-masks.ensures) tt;
  len = ap length c.empty-masks.ensures;
  most = let same = ap length c.layers-layer-items.ensures in omega (arith, same);
}

pub loop-layer-preserved : goal.loop-layer-preserved
loop-layer-preserved c =
    let i = c.loop-layer.layer-index in
    let layers = c.layers-layer-items.result.now in
    let masks = c.loop-layer.masks in
    let layer = c.layer-item.result in
    let new = c.mask_on.result.0 in
    let last : take (i + 1) layers ≡ take i layers ++ layer ∷ [] =
    take_more layers i layer c.loop-layer-test.true ∙ ap (λ l. take i layers ++ l ∷ []) (sym c.layer-item.is) in
    record {
      so_far = rw (c.push.ensures, last)
          (masks-push masks (take i layers) c.args.inodes.now new layer c.loop-layer.invariant.so_far
          c.mask_on.ensures);
      len = ap length c.push.ensures ∙ length-append masks (new ∷ []) ∙ ap (λ n. n + 1) c.loop-layer.invariant.len;
      most = c.loop-layer.invariant.most;
    }

pub push-requires-clause-known : goal.push-requires-clause-known
push-requires-clause-known c = c.mask_on.ensures.known
