use Rattle.std.proofs.Common.{take}
use Rattle.std.specs.List.{AllZip}
use Rattle.ll_why.specs.Places.{IsLeastOf}
use Rattle.ll_why.proofs.change.change_for.Given as goal

-- of the layers so far
abbrev pub invariant-loop-layer : goal.invariant-loop-layer
invariant-loop-layer l = record {
  so_far : AllZip (λ change layer. IsLeastOf l.level l.tree l.asks layer change) l.changes.items
      (take l.layer-index l.layers);
}
