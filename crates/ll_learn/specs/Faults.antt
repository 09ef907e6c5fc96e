-- Why nothing can be learned from entries after a cut. own
use Rattle.std.specs.Prelude.{◌≡◌, ℕ, ◌-◌, ◌≤◌, ⊤, true, false, List, length, take, Some, slice_get}
use Rattle.ll_rights.specs.declared.limits.TheConstants.{DOMAIN_LAYERS}
use Rattle.ll_rights.specs.Map.{has}
use Rattle.ll_decide.specs.declared.denial.Denial.{Denial}
use Rattle.ll_seq.specs.declared.reply.Entry.{Entry}
use Rattle.ll_seq.specs.declared.reply.Reply.TheVariants as reply
use Rattle.ll_seq.specs.History.{IsLegal, state_after}
use Rattle.ll_seq.specs.State.{State}
use Rattle.ll_seq.specs.Step.{client_of}
use Rattle.ll_audit.specs.Audit.{IsFirstIllegal}
use Rattle.ll_learn.specs.declared.fault.LearnFault.{LearnFault}
use Rattle.ll_learn.specs.declared.fault.LearnFault.TheVariants as fault
use Rattle.ll_learn.specs.PassedCalls.{IsOpen, is_client}
use Rattle.ll_learn.specs.WatchedClients.{joined}

-- this many entries are legal, and before the last of them nothing is denied and there is room
pub record HasCome (s : State) (client : ℕ) (es : List Entry) (number : ℕ) : Type 0 where
  pub legal : IsLegal s (take number es)
  pub stays : IsOpen s (is_client client) (take (number - 1) es)

-- the entry with this number, from 1, is the first that is denied to a client that the layer is on
pub record IsFirstDenied (s : State) (client : ℕ) (es : List Entry) (number : ℕ) : Type 0 where
  pub come : HasCome s client es number
  pub first : 1 ≤ number
  pub entry : Entry
  pub there : slice_get es (number - 1) ≡ Some entry
  pub on : joined (is_client client) (take (number - 1) es) entry.client ≡ true
  pub denial : Denial
  pub denied : entry.reply ≡ reply.Denied denial

-- after this many entries, and no fewer, a client that the layer is on has the most layers
pub record IsFirstFull (s : State) (client : ℕ) (es : List Entry) (number : ℕ) : Type 0 where
  pub come : HasCome s client es number
  pub last : number ≤ length es
  pub who : ℕ
  pub on : joined (is_client client) (take number es) who ≡ true
  pub full : DOMAIN_LAYERS ≤ length (client_of (state_after s (take number es)) who).domain

abbrev pub IsFault : State → ℕ → List Entry → LearnFault → Type 0
IsFault s client es fault.NoClient = has s.clients client ≡ false
IsFault s client es (fault.Illegal number) = IsFirstIllegal s es number
IsFault s client es (fault.Denied number) = IsFirstDenied s client es number
IsFault s client es (fault.Full number) = IsFirstFull s client es number
IsFault s client es fault.NoMemory = ⊤
