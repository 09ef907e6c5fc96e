-- A path's text, name by name, for the code's helpers: no public contract cites this file.
use Rattle.std.specs.Prelude.{ℕ, List, ◌∷◌, nat_lt, if◌then◌else◌}

-- a path's name after this many others, separated by a slash (47)
abbrev pub parted : ℕ → List ℕ → List ℕ
parted before name = if nat_lt 0 before then 47 ∷ name else name
