-- What the slots hold, and how that agrees with the journal. No public contract cites it. own
use Rattle.std.specs.Prelude.{◌≡◌, ℕ, ◌≤◌, List, Some, length, slice_index_or}
use Rattle.ll_node.specs.declared.held.Held.{Held}
use Rattle.ll_node.specs.Lent.{vacant}
use Rattle.ll_seq.specs.declared.call.Call.{Call}
use Rattle.ll_journal.specs.Book.{Book, slot_of}
use Rattle.ll_journal.specs.Stations.{Names, call_of}
use Rattle.ll_journal.specs.declared.onward.Onward.{Onward}
use Rattle.ll_journal.specs.SlotTree.{accounts_of}
use Rattle.ll_laws.specs.Sound.{IsSound}
use Rattle.ll_journal.specs.declared.progress.Progress as journal
use Rattle.ll_journal.specs.declared.progress.Progress.TheVariants as told
use Rattle.ll_journal.specs.declared.progress.Ending.{Ending}
use Rattle.ll_journal.specs.declared.progress.Ending.TheVariants as ending
use Rattle.ll_journal.specs.declared.direct.Made.{Made}
use Rattle.ll_journal.specs.declared.direct.Made.TheVariants as answer
use Rattle.ll_rights.specs.declared.errno.Errno.TheVariants.{HistoryFull, NoMemory}
use Rattle.ll_steps.specs.declared.report.Report.{Report}
use Rattle.ll_steps.specs.declared.report.Report.TheVariants.{NotNow, Stands, Forked, Restarted, Replied, Refused}

abbrev pub held_at : List Held → ℕ → Held
held_at slots k = slice_index_or slots k vacant

pub record IsKept (b : Book) (slots : List Held) : Type 0 where
  pub accounts : slots ≡ accounts_of b
  pub sound : IsSound b.world
  pub within : length b.world.history ≤ b.world.limit

-- the hinted name of the client's walk has the hinted inode in this slot
abbrev pub IsHint : Book → ℕ → ℕ → Onward → Type 0
IsHint b client slot on =
    (call : Call) → call_of b.world client ≡ Some call → Names call (slot_of b slot) on.name on.inode

-- the report of what the journal returns for a step
abbrev pub told_as : journal.Progress → Report
told_as told.NotNow = NotNow
told_as told.Astray = NotNow
told_as (told.Stands inode) = Stands inode
told_as told.Forked = Forked
told_as told.Restarted = Restarted

-- the report of a call without a walk; its entry would have this number
abbrev pub answered_as : ℕ → Made → Report
answered_as number (answer.Replied reply) = Replied number
answered_as number answer.HistoryFull = Refused HistoryFull
answered_as number answer.NoMemory = Refused NoMemory

-- the report of a commit
abbrev pub ended_as : ℕ → Ending → Report
ended_as number ending.NotNow = NotNow
ended_as number ending.Astray = NotNow
ended_as number (ending.Replied reply) = Replied number
ended_as number ending.HistoryFull = Refused HistoryFull
ended_as number ending.NoMemory = Refused NoMemory
