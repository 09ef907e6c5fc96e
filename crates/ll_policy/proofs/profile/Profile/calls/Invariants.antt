use Rattle.std.proofs.Common.{◌≡◌, take}
use Rattle.ll_policy.specs.KeptCalls.{calls_of_layers}
use Rattle.ll_policy.proofs.profile.Profile.calls.Given as goal

abbrev pub invariant-loop-layer : goal.invariant-loop-layer
invariant-loop-layer l = (l.number ≡ l.layer-index)
    × (l.calls.items ≡ calls_of_layers 0 (take l.layer-index l.layer-items))
