use Rattle.std.proofs.Common.{◌≡◌, ◌≤◌, length, take}
use Rattle.ll_decide.specs.Masks.{AreMasks}
use Rattle.ll_why.proofs.reason.masks_on.Given as goal

-- of the layers so far
abbrev pub invariant-loop-layer : goal.invariant-loop-layer
invariant-loop-layer l = record {
  so_far : AreMasks l.masks (take l.layer-index l.layer-items) l.fn.inodes;
  len : length l.masks ≡ l.layer-index;
  most : length l.layer-items ≤ 16;
}
