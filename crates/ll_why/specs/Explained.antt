-- Why a tree denies a call, or doesn't, and the least change that would allow it. own
use Rattle.std.specs.Prelude.{◌≡◌, ℕ, Option, Some, None, true, false}
use Rattle.std.specs.declared.alloc.Global.{Global}
use Rattle.std.specs.declared.vec.Vec.{Vec}
use Rattle.ll_rights.specs.Map.{has}
use Rattle.ll_seq.specs.State.{State}
use Rattle.ll_seq.specs.Step.{client_of}
use Rattle.ll_seq.specs.declared.call.Call.{Call}
use Rattle.ll_seq.specs.declared.client.ClientRecord.{ClientRecord}
use Rattle.ll_why.specs.Changes.{IsLeastFound}
use Rattle.ll_why.specs.Reasons.{IsAnswered, IsWhy, kept_number}
use Rattle.ll_why.specs.declared.change.LayerChange.{LayerChange}
use Rattle.ll_why.specs.declared.reason.Reason.{Reason}
use Rattle.ll_why.specs.declared.why.Why.{Why}
use Rattle.ll_why.specs.declared.why.Why.TheVariants.{Judged}
use Rattle.ll_why.specs.declared.explanation.Explanation.{Explanation}

-- if the client's layers decide, this is the least change that allows its call, in a tree of this level
abbrev pub AreLeastFor : ℕ → State → ClientRecord → Call → Why → Option (Vec LayerChange Global) → Type 0
AreLeastFor level s c call why found =
    (reason : Reason) → why ≡ Judged reason → kept_number call ≡ None → IsLeastFound level s c call reason.asks found

-- why policy allows the client's call or denies it; that the step answers accordingly; and the least change
pub record Explains (level : ℕ) (s : State) (n : ℕ) (call : Call) (told : Explanation) : Type 0 where
  pub why : IsWhy s (client_of s n) call told.why
  pub answered : IsAnswered s n call told.why
  pub changes : AreLeastFor level s (client_of s n) call told.why told.changes

-- the explanation of a client's call, if the client exists
abbrev pub IsExplained : ℕ → State → ℕ → Call → Option Explanation → Type 0
IsExplained level s n call None = has s.clients n ≡ false
IsExplained level s n call (Some told) = (has s.clients n ≡ true) × Explains level s n call told
