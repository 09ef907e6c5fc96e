use Rattle.std.proofs.Common.{◌≡◌, drop}
use Rattle.std.specs.List.{list_all}
use Rattle.ll_commands.specs.Confinement.{is_sound_layer}
use Rattle.ll_commands.proofs.confinement.flaw_of_layers.Given as goal

-- the layers that are still to come decide
abbrev pub invariant-loop-layer : goal.invariant-loop-layer
invariant-loop-layer l = list_all (is_sound_layer l.abi l.opening) l.layers
    ≡ list_all (is_sound_layer l.abi l.opening) (drop l.layer-index l.layers)
