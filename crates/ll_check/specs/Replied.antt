-- How many replies there are: for the helpers of a file's check, and cited by no public contract. own
use Rattle.std.specs.Prelude.{⊤, ◌≡◌, ℕ, length}
use Rattle.ll_session.specs.declared.calls_run.CallReplies.{CallReplies}
use Rattle.ll_session.specs.declared.calls_run.CallReplies.TheVariants.{Answered, Refused}

-- this many calls have their replies, if they were made
abbrev pub HasReplies : ℕ → CallReplies → Type 0
HasReplies count (Answered replies) = count ≡ length replies.items
HasReplies count (Refused refusal) = ⊤
