-- What layers grant on the nodes that a call needs rights on, as masks. Cited by contracts between crates alone. own
use Rattle.std.specs.Prelude.{◌≡◌, ℕ, Bool, List, slice_index}
use Rattle.ll_rights.specs.Access.{holds}
use Rattle.ll_rules.specs.Layer.{Layer, grants_on}
use Rattle.ll_decide.specs.declared.demands.On.{On}
use Rattle.ll_decide.specs.declared.demands.On.TheVariants.{Itself, Other, Parent, Left, Entered}
use Rattle.ll_decide.specs.declared.judge.Granted.{Granted}
use Rattle.ll_decide.specs.Masks.{AreMasks}

-- the masks for each `On`. Parent and Left share one: both are the first path's directory
abbrev pub masks_on : Granted → On → List ℕ
masks_on g Itself = g.itself.now
masks_on g Other = g.other.now
masks_on g Parent = g.parent.now
masks_on g Left = g.parent.now
masks_on g Entered = g.entered.now

-- the right is in the mask of the layer with this number, counted from 0
abbrev pub grants_by : Granted → ℕ → On → ℕ → Bool
grants_by g layer on right = holds (slice_index (masks_on g on) layer) right

-- the layer grants the right on the chain of inodes given for each `On`
abbrev pub grants_along : (On → List ℕ) → Layer → On → ℕ → Bool
grants_along chain layer on right = grants_on layer (chain on) right

-- the masks are the domain's over these chains
pub record AreGranted (domain : List Layer) (chain : On → List ℕ) (granted : Granted) : Type 0 where
  pub itself : AreMasks granted.itself.now domain (chain Itself)
  pub other : AreMasks granted.other.now domain (chain Other)
  pub parent : AreMasks granted.parent.now domain (chain Parent)
  pub left : chain Left ≡ chain Parent
  pub entered : AreMasks granted.entered.now domain (chain Entered)
