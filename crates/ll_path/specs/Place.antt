-- Places in the text of a path. own
use Rattle.std.specs.Prelude.{◌≡◌, ◌+◌, ◌≤◌, length, take}
use Rattle.std.specs.List.{sum_by}
use Rattle.ll_path.specs.Path.{Path}
use Rattle.ll_path.specs.declared.place.Place.{Place}

-- the number of the path's names before the place, and their length with a slash after each
pub record IsPlace (path : Path) (place : Place) : Type 0 where
  pub within : place.depth ≤ length path
  pub before : place.byte ≡ sum_by (λ name. length name + 1) (take place.depth path)
