-- Where a walk is, for the helpers of the plain tree alone: no public contract cites this file.
use Rattle.std.specs.Prelude.{◌≡◌, List, length, slice_get}
use Rattle.ll_path.specs.Path.{Path, parent}
use Rattle.ll_rules.specs.Layer.{Layer}
use Rattle.ll_decide.specs.Masks.{AreMasks}
use Rattle.ll_seq.specs.State.{State, root}
use Rattle.ll_seq.specs.Tree.{named, ancestors}
use Rattle.ll_seq.specs.Stages.{in_the_way}
use Rattle.ll_plain.specs.declared.walk.Walk.{Walk}
use Rattle.ll_plain.specs.declared.walk.PathWalk.{PathWalk}
use Rattle.ll_seq.specs.Found.{IsSpot}

-- the walk along these names: where it ends, the first obstacle, and the rights that each layer grants there
pub record IsWalk (s : State) (domain : List Layer) (names : Path) (walk : Walk) : Type 0 where
  pub end : walk.end ≡ named s names
  pub way : walk.way ≡ slice_get (in_the_way s names root) 0
  pub masks : AreMasks walk.masks domain (ancestors s names)
  pub len : length walk.masks ≡ length domain

-- the walk along a path: its spot, and the rights that each layer grants on the path and on its parent
pub record IsPathWalk (s : State) (domain : List Layer) (path : Path) (walk : PathWalk) : Type 0 where
  pub spot : IsSpot s path walk.spot
  pub parent : AreMasks walk.parent domain (ancestors s (parent path))
  pub itself : AreMasks walk.itself domain (ancestors s path)
  pub parent_len : length walk.parent ≡ length domain
  pub itself_len : length walk.itself ≡ length domain
