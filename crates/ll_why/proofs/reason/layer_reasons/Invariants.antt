use Rattle.std.proofs.Common.{take}
use Rattle.std.specs.List.{AllZip}
use Rattle.ll_why.specs.Reasons.{IsLayerReason}
use Rattle.ll_why.proofs.reason.layer_reasons.Given as goal

-- of the layers so far
abbrev pub invariant-loop-layer : goal.invariant-loop-layer
invariant-loop-layer l = record {
  so_far : AllZip (λ one layer. IsLayerReason l.fn.asks layer one) l.told.items (take l.layer-index l.layers);
}
