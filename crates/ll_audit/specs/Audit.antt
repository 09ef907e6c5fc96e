-- What an audit reports. own
use Rattle.std.specs.Prelude.{◌≡◌, ℕ, ◌≤◌, ◌-◌, List, length, take, Some, slice_get}
use Rattle.ll_seq.specs.Memory.{MayStarve}
use Rattle.ll_seq.specs.declared.reply.Entry.{Entry}
use Rattle.ll_seq.specs.History.{IsLegal, state_after}
use Rattle.ll_seq.specs.State.{State}

-- the entry with this number, counted from 1, is the first that makes the history illegal
pub record IsFirstIllegal (s : State) (entries : List Entry) (number : ℕ) : Type 0 where
  pub first : 1 ≤ number
  pub last : number ≤ length entries
  pub legal : IsLegal s (take (number - 1) entries)
  pub illegal : IsLegal s (take number entries) → ⊥

-- the call of some entry, after only legal ones, may find no memory there
pub record Starves (s : State) (entries : List Entry) : Type 0 where
  pub done : ℕ
  pub entry : Entry
  pub next : slice_get entries done ≡ Some entry
  pub legal : IsLegal s (take done entries)
  pub may : MayStarve (state_after s (take done entries)) entry.client entry.call
