-- Lists with room. No public contract cites it. own
use Rattle.std.specs.Prelude.{◌≡◌, ◌≤◌, ℕ, [], Vec, vec_capacity}

-- the list is empty, and has room for this many
abbrev pub IsRoomFor : {A Z : Type 0} → ℕ → Vec A Z → Type 0
IsRoomFor most room = (room.items ≡ []) × (most ≤ vec_capacity room)
