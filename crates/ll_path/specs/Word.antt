-- Words of command lines. own
use Rattle.std.specs.Prelude.{ℕ, ◌≤◌, ◌<◌, List, length}
use Rattle.std.specs.List.{AllByRecursion}

-- a printable character of ASCII except the space
abbrev pub IsVisible : ℕ → Type 0
IsVisible b = (0x21 ≤ b) × (b ≤ 0x7e)

abbrev pub IsWord : List ℕ → Type 0
IsWord bytes = (0 < length bytes) × (length bytes ≤ 8000) × AllByRecursion IsVisible bytes
