-- What is promised of every list of steps, whoever makes them and in whatever order. own
use Rattle.std.specs.Prelude.{◌≡◌, ◌≤◌, List, [], ◌∷◌, ◌++◌, length}
use Rattle.ll_laws.specs.NoGain.{GainsNothing}
use Rattle.ll_laws.specs.Withheld.{Withholds}
use Rattle.ll_seq.specs.declared.reply.Entry.{Entry}
use Rattle.ll_seq.specs.State.{start}
use Rattle.ll_seq.specs.History.{IsLegal}
use Rattle.ll_laws.specs.declared.step.Step.{Step}
use Rattle.ll_laws.specs.World.{World}
use Rattle.ll_laws.specs.Growth.{Came}
use Rattle.ll_laws.specs.Walks.{AreValid, AreApart, AreFew, GateIsHeld}
use Rattle.ll_steps.specs.declared.report.Report.{Report}
use Rattle.ll_steps.specs.Makes.{Makes, Adds}

-- What holds in every world: of its history, of the walks under way, and between any two points of the history
pub record IsLawful (w : World) : Type 0 where
  pub legal : IsLegal (start w.rules w.room) w.history
  pub within : length w.history ≤ w.limit
  -- what a walk has found is right in the visible tree, unless the walk is stale
  pub valid : AreValid w
  -- no directory has two marks
  pub apart : AreApart w
  -- no walk starts more than four times
  pub few : AreFew w
  -- whoever needs the gate holds it, and is never stale
  pub gate : GateIsHeld w
  -- reach never grows under a layer, and withheld bytes stay withheld
  pub between : (early late rest : List Entry) → w.history ≡ early ++ late ++ rest →
      GainsNothing w.rules w.room early late × Withholds w.rules w.room early late

-- the same tree after these entries were added
pub record Grows (w w' : World) (added : List Entry) : Type 0 where
  pub came : Came w w' added
  pub rules : w'.rules ≡ w.rules
  pub room : w'.room ≡ w.room
  pub limit : w'.limit ≡ w.limit

-- Each step has its outcome, and adds to the history exactly the entries that its outcome implies, in order
abbrev pub Runs : World → List Step → List Report → List Entry → World → Type 0
Runs w [] [] added w' = (added ≡ []) × (w' ≡ w)
Runs w (step' ∷ steps) (outcome ∷ outcomes) added w' =
    (v : World) × (its others : List Entry) × (added ≡ its ++ others)
    × Makes w step' outcome v × Adds w step' outcome its × Grows w v its × Runs v steps outcomes others w'
Runs w steps outcomes added w' = ⊥

pub record IsHeadline (w : World) (steps : List Step) (outcomes : List Report) (w' : World) : Type 0 where
  pub added : List Entry
  pub runs : Runs w steps outcomes added w'
  pub grows : Grows w w' added
  pub lawful : IsLawful w'
