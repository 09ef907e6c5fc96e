-- Where single layers of two policies grant something else on one path. own
use Rattle.std.specs.Prelude.{ℕ, ◌+◌, max, Bool, ◌&&◌, ◌==◌, List, [], ◌∷◌, length, Option, Some, None, slice_get}
use Rattle.std.specs.Prelude.{codes, decimal, if◌then◌else◌}
use Rattle.std.specs.List.{flat_map, list_all, range_with_len, zip}
use Rattle.ll_why.specs.Signed.{change_tokens}
use Rattle.ll_why.specs.declared.grants.Grants.{Grants}

-- both layers grant the same rights, of those that apply to the node
abbrev pub same_grants : Grants × Grants → Bool
same_grants pair = pair.0.missing.0 == pair.1.missing.0

-- There are as many layers, and each grants the same as the one in its place. Their order counts, since a denial names
-- its layer's number; so does a layer that denies nothing, since a client may have 16. How rules spell the layers
-- doesn't count
abbrev pub same_layers : (old new : List Grants) → Bool
same_layers old new = (length old == length new) && list_all same_grants (zip old new)

-- a layer's word and number, and what it grants more and less, by the rights that it lacked and those that it lacks
abbrev pub layer_tokens : List ℕ → (number lacked lacks : ℕ) → List (List ℕ)
layer_tokens word number lacked lacks = word ∷ decimal number ∷ change_tokens lacks lacked

-- the layer with this number: of both policies, of the new one alone, or of the old one alone
abbrev pub layer_difference : (number : ℕ) → (old new : Option Grants) → List (List ℕ)
layer_difference number (Some old) (Some new) = if old.missing.0 == new.missing.0 then []
    else layer_tokens (codes "layer") number old.missing.0 new.missing.0
layer_difference number None (Some new) = layer_tokens (codes "new-layer") number 0 new.missing.0
layer_difference number (Some old) None = layer_tokens (codes "old-layer") number old.missing.0 0
layer_difference number None None = []

-- the layers that differ, the oldest first, numbered from 1
abbrev pub layer_differences : (old new : List Grants) → List (List ℕ)
layer_differences old new =
    flat_map (λ place. layer_difference (place + 1) (slice_get old place) (slice_get new place))
    (range_with_len 0 (max (length old) (length new)))
