-- The result of a call, as its typed answer says it. own
use Rattle.std.specs.Prelude.{Result, Ok, Err, Bool, ⊤}
use Rattle.ll_rights.specs.declared.errno.Errno.TheVariants as errno
use Rattle.ll_seq.specs.declared.reply.Reply.{Reply}
use Rattle.ll_seq.specs.declared.reply.Reply.TheVariants as reply
use Rattle.ll_journal.specs.declared.direct.Made.{Made}
use Rattle.ll_journal.specs.declared.direct.Made.TheVariants as made
use Rattle.ll_client.specs.Replies.{Fits}
use Rattle.ll_calls.specs.declared.refused.Refused.{Refused}
use Rattle.ll_calls.specs.declared.refused.Refused.TheVariants as refused

-- a full history and NoMemory have no entry, and any other refusal has one
abbrev pub refused_as : Refused → Made
refused_as (refused.Errno errno.HistoryFull) = made.HistoryFull
refused_as (refused.Errno errno.NoMemory) = made.NoMemory
refused_as (refused.Errno other) = made.Replied (reply.Refused other)
refused_as (refused.Denied denial) = made.Replied (reply.Denied denial)

-- the reply that has this value
abbrev pub made_as : {A : Type 0} → (A → Reply) → Result A Refused → Made
made_as tells (Ok value) = made.Replied (tells value)
made_as tells (Err why) = refused_as why

-- the reply is a success of this kind, or a failure that an entry may have
abbrev pub FitsMade : (Reply → Bool) → Made → Type 0
FitsMade succeeds (made.Replied told) = Fits succeeds told
FitsMade succeeds made.HistoryFull = ⊤
FitsMade succeeds made.NoMemory = ⊤
