-- What a call results in, given what is found. Cited by contracts between crates alone. own
use Rattle.std.specs.Prelude.{◌≡◌, ℕ, true, []}
use Rattle.ll_seq.specs.declared.call.Call.{Call}
use Rattle.ll_seq.specs.declared.reply.Reply.{Reply}
use Rattle.ll_seq.specs.State.{State}
use Rattle.ll_seq.specs.Step.{step, refusals, client_of}
use Rattle.ll_seq.specs.declared.changes.Effect.{Effect}
use Rattle.ll_seq.specs.Effect.{Fits, after, told}
use Rattle.ll_seq.specs.Lean.{is_lean, spares_memory}

-- the call gets this reply, and nothing changes
abbrev pub IsRefused : State → ℕ → Call → Reply → Type 0
IsRefused s n call reply = (fresh : ℕ) → ◌≡◌ {A = Reply × State} (reply, s) (step s n call fresh)

-- nothing refuses the call, and this is its effect
pub record IsDone (s : State) (n : ℕ) (call : Call) (effect : Effect) : Type 0 where
  pub free : refusals s (client_of s n) call ≡ []
  pub done : (fresh : ℕ) →
      ◌≡◌ {A = Reply × State} (step s n call fresh) (told s effect.answer, after s n (client_of s n) effect.change)
  pub fits : Fits s (client_of s n) effect.change
  pub lean : spares_memory call ≡ true → is_lean effect ≡ true
