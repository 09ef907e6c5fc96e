use Rattle.std.proofs.Common.{◌≡◌, take}
use Rattle.ll_why.specs.Rights.{AreByLayers}
use Rattle.ll_why.proofs.rights.PathRights.by_layers.Given as goal

-- by the layers so far
abbrev pub invariant-loop-layer : goal.invariant-loop-layer
invariant-loop-layer l = record {
  kind : l.told.kind ≡ l.fn.kind;
  so_far : AreByLayers (take l.layer-index l.layers) l.inodes l.all.0 l.told;
}
