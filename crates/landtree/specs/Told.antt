-- Which bytes hints have. own
use Rattle.std.specs.Prelude.{◌≡◌, ℕ, Bool, true, ◌==◌, ◌||◌}
use Rattle.ll_wire.specs.Terminal.{is_printed}

-- a printable character of ASCII, or a line feed
abbrev pub is_told : ℕ → Bool
is_told b = is_printed b || (b == 10)

abbrev pub IsTold : ℕ → Type 0
IsTold b = is_told b ≡ true
