use Rattle.std.proofs.Common.{◌≡◌, ◌+◌, ◌-◌, ◌++◌, max, length, string_bytes}
use Rattle.std.specs.List.{flat_map, range_with_len}
use Rattle.std.specs.Prelude.{slice_get}
use Rattle.ll_why.specs.LayerDifference.{layer_difference, layer_differences}
use Rattle.ll_why.specs.Table.{behind}
use Rattle.ll_why.proofs.layer_difference.push_layer_differences.Given as goal

-- what is still to come
abbrev pub invariant-loop-place : goal.invariant-loop-place
invariant-loop-place l =
    string_bytes l.initial.text ++ behind (layer_differences l.old l.new)
    ≡ string_bytes l.text
    ++ behind (flat_map (λ place. layer_difference (place + 1) (slice_get l.old place) (slice_get l.new place))
    (range_with_len l.place (max (length l.old) (length l.new) - l.place)))
