use Rattle.std.proofs.Common.{◌≡◌, ◌++◌, drop, string_bytes}
use Rattle.std.specs.List.{flat_map}
use Rattle.ll_commands.specs.CProgram.{c_layer}
use Rattle.ll_commands.proofs.c_program.c_layers.Given as goal

-- what is still to come
abbrev pub invariant-loop-layer : goal.invariant-loop-layer
invariant-loop-layer l =
    flat_map (c_layer l.opening) l.layers
    ≡ string_bytes l.text ++ flat_map (c_layer l.opening) (drop l.layer-index l.layers)
