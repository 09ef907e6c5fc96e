-- What an iterator over a path's names has left, for its model: no public contract cites this file.
use Rattle.std.specs.Prelude.{ℕ, ◌==◌, List, [], Option, Some, None}
use Rattle.std.specs.List.{slice_split}
use Rattle.std.specs.Borrow.{Bor}

abbrev pub names_left : Option (Bor (List ℕ)) → List (List ℕ)
names_left None = []
names_left (Some text) = slice_split (λ b. b == 47) text.now
