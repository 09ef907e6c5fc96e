-- A call's answer, told by its type.
use Rattle.std.proofs.Common.{◌≡◌, ℕ}
use Rattle.ll_seq.specs.declared.call.Call.{Call}
use Rattle.ll_journal.specs.declared.direct.Made.{Made}
use Rattle.ll_journal.specs.declared.direct.Made.TheVariants as made
use Rattle.ll_client.specs.Entries.{Knows}
use Rattle.ll_client.specs.Gains.{Gains}
use Rattle.ll_client.specs.Replies.{success}
use Rattle.ll_calls.specs.Typed.{FitsMade}

-- what is told of a call fits it
pub gains_fit : (limit : ℕ) (call : Call) (k : Knows) (it : Made) (k' : Knows) → Gains limit call k it k'
    → FitsMade (success call) it
gains_fit limit call k (made.Replied reply) k' g = g.1
gains_fit limit call k made.HistoryFull k' g = tt
gains_fit limit call k made.NoMemory k' g = tt
