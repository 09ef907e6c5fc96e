-- The outcome of a call, for the helpers of the plain tree alone: no public contract cites this file.
use Rattle.std.specs.Prelude.{◌≡◌, ℕ, ◌⊎◌}
use Rattle.ll_rights.specs.declared.errno.Errno.TheVariants.{NoMemory}
use Rattle.ll_seq.specs.declared.call.Call.{Call}
use Rattle.ll_seq.specs.declared.reply.Reply.{Reply}
use Rattle.ll_seq.specs.declared.reply.Reply.TheVariants.{Refused}
use Rattle.ll_seq.specs.Memory.{MayStarve}
use Rattle.ll_seq.specs.State.{State}
use Rattle.ll_seq.specs.Step.{step}

-- the call, which may need memory, finds none, and nothing changes
abbrev pub Starves : State → ℕ → Call → Reply → State → Type 0
Starves s number call reply after = (reply ≡ Refused NoMemory) × (after ≡ s) × MayStarve s number call

-- the call has the outcome of its step, given this number for a spawned client
abbrev pub StepsBy : ℕ → State → ℕ → Call → Reply → State → Type 0
StepsBy fresh s number call reply after = ◌≡◌ {A = Reply × State} (reply, after) (step s number call fresh)

-- it has the outcome of its step, or finds no memory
abbrev pub ComesBy : ℕ → State → ℕ → Call → Reply → State → Type 0
ComesBy fresh s number call reply after = StepsBy fresh s number call reply after ⊎ Starves s number call reply after

-- its outcome doesn't depend on that number
abbrev pub Steps : State → ℕ → Call → Reply → State → Type 0
Steps s number call reply after = (fresh : ℕ) → StepsBy fresh s number call reply after

abbrev pub Comes : State → ℕ → Call → Reply → State → Type 0
Comes s number call reply after = (fresh : ℕ) → ComesBy fresh s number call reply after
