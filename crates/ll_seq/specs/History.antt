-- Histories of one tree. own
use Rattle.std.specs.Prelude.{◌≡◌, ℕ, Bool, true, false, not, List, [], ◌∷◌, ⊤, IsTrue}
use Rattle.ll_rights.specs.Map.{has}
use Rattle.ll_seq.specs.declared.call.Call.{Call}
use Rattle.ll_seq.specs.declared.call.Call.TheVariants.{Connect}
use Rattle.ll_seq.specs.declared.reply.Reply.{Reply}
use Rattle.ll_seq.specs.declared.reply.Reply.TheVariants.{Done, Spawned}
use Rattle.ll_seq.specs.declared.reply.Entry.{Entry}
use Rattle.ll_seq.specs.State.{State}
use Rattle.ll_seq.specs.Step.{step}

abbrev pub is_connect : Call → Bool
is_connect Connect = true
is_connect _ = false

abbrev pub fresh_of : Reply → ℕ
fresh_of (Spawned number) = number
fresh_of _ = 0

abbrev pub outcome_of : State → Entry → Reply × State
outcome_of s e = step s e.client e.call (fresh_of e.reply)

abbrev pub after : State → Entry → State
after s e = (outcome_of s e).1

pub record MayStand (s : State) (e : Entry) : Type 0 where
  -- the caller exists, except for a connect, which creates it
  pub caller : has s.clients e.client ≡ not (is_connect e.call)
  pub connected : IsTrue (is_connect e.call) → e.reply ≡ Done
  -- a spawned client's number was never given before
  pub spawned : (number : ℕ) → e.reply ≡ Spawned number → has s.clients number ≡ false
  pub answered : (outcome_of s e).0 ≡ e.reply

abbrev pub IsLegal : State → List Entry → Type 0
IsLegal s [] = ⊤
IsLegal s (e ∷ es) = MayStand s e × IsLegal (after s e) es

abbrev pub state_after : State → List Entry → State
state_after s [] = s
state_after s (e ∷ es) = state_after (after s e) es

-- what a history stores: its entries, and the most entries it may have
pub record Log : Type 0 where
  pub entries : List Entry
  pub limit : ℕ
