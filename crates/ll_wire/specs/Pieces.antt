-- Streams of lines. own
use Rattle.std.specs.Prelude.{ℕ, List, [], ◌∷◌, ◌==◌, if◌then◌else◌}
use Rattle.std.specs.List.{onto_first}

-- A stream is cut after each line feed. The bytes after the last one are a piece too
abbrev pub pieces : List ℕ → List (List ℕ)
pieces [] = []
pieces (b ∷ bs) = if b == 10 then (b ∷ []) ∷ pieces bs else onto_first b (pieces bs)
