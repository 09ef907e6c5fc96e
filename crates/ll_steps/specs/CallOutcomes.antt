-- The outcome of a call whose steps are made one after the other. own
use Rattle.std.specs.Prelude.{◌≡◌, ◌≢◌, ◌⊎◌, ℕ}
use Rattle.ll_seq.specs.declared.call.Call.{Call}
use Rattle.ll_laws.specs.declared.step.Step.{Step}
use Rattle.ll_laws.specs.declared.step.Step.TheVariants.{Begin, Descend, Fork, Commit, Restart, FdCommit, ClientStep}
use Rattle.ll_laws.specs.World as world
use Rattle.ll_laws.specs.World.{World, advance}
use Rattle.ll_steps.specs.declared.report.Report.{Report}
use Rattle.ll_steps.specs.declared.report.Report.TheVariants as report
use Rattle.ll_steps.specs.Makes.{Makes}

-- the step isn't enabled
abbrev pub Waits : World → Step → Type 0
Waits w step' = advance w step' ≡ (world.NotNow, w)

-- the first enabled one of a fork, a descent and a restart is made
abbrev pub GoesOn : World → ℕ → World → Type 0
GoesOn w client v =
    Makes w (Fork client) report.Forked v
    ⊎ (Waits w (Fork client) × (inode : ℕ) × Makes w (Descend client) (report.Stands inode) v)
    ⊎ (Waits w (Fork client) × Waits w (Descend client) × Makes w (Restart client) report.Restarted v)

abbrev pub IsStuck : World → ℕ → Type 0
IsStuck w client = Waits w (Fork client) × Waits w (Descend client) × Waits w (Restart client)

-- The client's walk commits as soon as it may, and goes on until then. It waits if none of its steps is enabled
pub data Leads (client : ℕ) : World → Report → World → Type 0 where
  answered : (w w' : World) (o : Report) → Makes w (Commit client) o w' → o ≢ report.NotNow → Leads client w o w'
  goes_on : (w v w' : World) (o : Report) → Waits w (Commit client) → GoesOn w client v → Leads client v o w'
      → Leads client w o w'
  waits : (w : World) → Waits w (Commit client) → IsStuck w client → Leads client w report.NotNow w

-- A call on a descriptor, or for the client alone, is one step. Any other begins its walk, if it may, and then the walk
-- is led on. The outcome is the last step's. A walk that waits stays under way
pub data Calls (w : World) (client : ℕ) (call : Call) : Report → World → Type 0 where
  on_file : (w' : World) (o : Report) → Makes w (FdCommit client call) o w' → o ≢ report.NotNow
      → Calls w client call o w'
  alone : (w' : World) (o : Report) → Waits w (FdCommit client call) → Makes w (ClientStep client call) o w'
      → o ≢ report.NotNow → Calls w client call o w'
  walks : (v w' : World) (o : Report) → Waits w (FdCommit client call) → Waits w (ClientStep client call)
      → Makes w (Begin client call) report.Begun v → Leads client v o w' → Calls w client call o w'
  waits : Waits w (FdCommit client call) → Waits w (ClientStep client call) → Waits w (Begin client call)
      → Calls w client call report.NotNow w
