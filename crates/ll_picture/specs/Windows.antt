-- Which lines of a schedule are drawn. own
use Rattle.std.specs.Prelude.{ℕ, zero, suc, Bool, ◌&&◌, true, nat_le, if◌then◌else◌}
use Rattle.std.specs.Option.{option_map_or}
use Rattle.ll_picture.specs.declared.window.Window.{Window}

-- the line with this number, from 1, is within the window: from its first line to its last, if it has one
abbrev pub has_line : Window → ℕ → Bool
has_line window number = nat_le window.from number && option_map_or (nat_le number) window.to true

-- how many of the first lines are drawn
abbrev pub drawn_of : Window → ℕ → ℕ
drawn_of window zero = zero
drawn_of window (suc lines) =
    if has_line window (suc lines) then suc (drawn_of window lines) else drawn_of window lines
