-- The outcome of a step, and the entry that it adds to the history. own
use Rattle.std.specs.Prelude.{◌≡◌, ◌⊎◌, true, List, [], ◌∷◌, length, Some, slice_get}
use Rattle.ll_rights.specs.declared.errno.Errno.TheVariants.{NoMemory}
use Rattle.ll_seq.specs.declared.call.Call.TheVariants.{Connect}
use Rattle.ll_seq.specs.declared.reply.Entry.{Entry}
use Rattle.ll_seq.specs.declared.reply.Reply.TheVariants as reply
use Rattle.ll_laws.specs.declared.step.Step.{Step}
use Rattle.ll_laws.specs.declared.step.Step.TheVariants.{Join, Commit}
use Rattle.ll_laws.specs.World as world
use Rattle.ll_laws.specs.World.{World, advance, called, is_full, without_walk}
use Rattle.ll_journal.specs.Direct.{Starves}
use Rattle.ll_steps.specs.declared.report.Report.{Report}
use Rattle.ll_steps.specs.declared.report.Report.TheVariants as report

-- ---- If memory runs out

-- the world then: a walk that was to be answered has ended, and nothing else has changed
abbrev pub starved : World → Step → World
starved w (Commit number) = without_walk w number
starved w step' = w

-- ---- Outcomes

-- no entry is added: the history is full, or a connect is refused
abbrev pub IsUntold : World → Step → Type 0
IsUntold w step' = (is_full w ≡ true) ⊎ (step' ≡ Join)

-- The outcome and the world are the step's. A reply is that of the last entry. Or memory ran out, for a step to which
-- that may happen
abbrev pub Makes : World → Step → Report → World → Type 0
Makes w step' report.NotNow w' = advance w step' ≡ (world.NotNow, w')
Makes w step' report.Begun w' = advance w step' ≡ (world.Begun, w')
Makes w step' (report.Stands inode) w' = advance w step' ≡ (world.Stands inode, w')
Makes w step' report.Forked w' = advance w step' ≡ (world.Forked, w')
Makes w step' report.Restarted w' = advance w step' ≡ (world.Restarted, w')
Makes w step' (report.Joined number) w' = advance w step' ≡ (world.Joined number, w')
Makes w step' (report.Replied k) w' =
    (k ≡ length w.history) × (entry : Entry) × (slice_get w'.history k ≡ Some entry)
    × (advance w step' ≡ (world.Replied entry.reply, w'))
Makes w step' (report.Refused errno) w' =
    (IsUntold w step' × (advance w step' ≡ (world.Replied (reply.Refused errno), w')))
    ⊎ ((errno ≡ NoMemory) × Starves w step' × (w' ≡ starved w step'))

-- ---- Entries

-- what the step adds to the history: an entry with the step's client and call, if its outcome has one. (Its number and
-- its reply are above)
abbrev pub Adds : World → Step → Report → List Entry → Type 0
Adds w step' (report.Joined number) added = added ≡ record { client = number; call = Connect; reply = reply.Done } ∷ []
Adds w step' (report.Replied k) added =
    (entry : Entry) × (called w step' ≡ Some (entry.client, entry.call)) × (added ≡ entry ∷ [])
Adds w step' other added = added ≡ []
