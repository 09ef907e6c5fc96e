-- Why a client's layers deny a call, or allow it. own
use Rattle.std.specs.Prelude.{◌≡◌, ◌≢◌, ℕ, ◌<◌, ◌≤◌, ◌^◌, List, [], Option, Some, None, MatchOption, slice_get}
use Rattle.std.specs.List.{AllByRecursion, AllZip}
use Rattle.ll_rights.specs.Access.{holds}
use Rattle.ll_rules.specs.Layer.{Layer}
use Rattle.ll_decide.specs.Demands.{gaining, set_of, set_on}
use Rattle.ll_decide.specs.Judge.{grants_along}
use Rattle.ll_decide.specs.declared.demands.Demands.{Demands}
use Rattle.ll_decide.specs.declared.demands.On.{On}
use Rattle.ll_decide.specs.declared.demands.On.TheVariants.{Itself, Other, Parent, Left, Entered}
use Rattle.ll_decide.specs.declared.demands.Way.{Way}
use Rattle.ll_decide.specs.declared.demands.Way.TheVariants.{There, Back}
use Rattle.ll_decide.specs.declared.denial.Denial.{Denial}
use Rattle.ll_decide.specs.declared.denial.Place.TheVariants.{Old, New}
use Rattle.ll_seq.specs.Asked.{call_denials}
use Rattle.ll_seq.specs.Step.{step}
use Rattle.ll_seq.specs.declared.call.Call.{Call}
use Rattle.ll_seq.specs.declared.call.Call.TheVariants.{Ftruncate}
use Rattle.ll_seq.specs.declared.client.ClientRecord.{ClientRecord}
use Rattle.ll_seq.specs.declared.reply.Reply.TheVariants as reply
use Rattle.ll_seq.specs.State.{State}
use Rattle.ll_seq.specs.Decided.{IsRefused}
use Rattle.ll_seq.specs.Demanded.{AreDemands, chains}
use Rattle.ll_seq.specs.Passed.{before_policy}
use Rattle.ll_why.specs.Grants.{AreGrants}
use Rattle.ll_why.specs.declared.asks.Asks.{Asks}
use Rattle.ll_why.specs.declared.grants.Grants.{Grants}
use Rattle.ll_why.specs.declared.reason.LayerReason.{LayerReason}
use Rattle.ll_why.specs.declared.reason.Reason.{Reason}
use Rattle.ll_why.specs.declared.why.Why.{Why}
use Rattle.ll_why.specs.declared.why.Why.TheVariants.{Refused, Kept, Judged}

-- the inodes of the path of this `On`
abbrev pub chain_of : Asks → On → List ℕ
chain_of asks Itself = asks.first.itself.items
chain_of asks Other = asks.second.itself.items
chain_of asks Parent = asks.first.parent.items
chain_of asks Left = asks.first.parent.items
chain_of asks Entered = asks.second.parent.items

-- only rights that exist are needed
pub record AreKnown (d : Demands) : Type 0 where
  pub asked : (on : On) → set_on d on < 2 ^ 15
  pub moved : (way : Way) → set_of d way < 2 ^ 15

-- the sets are those that the call needs, and the chains are those of its paths
pub record AreAsked (s : State) (call : Call) (asks : Asks) : Type 0 where
  pub demands : AreDemands s call asks.demands
  pub known : AreKnown asks.demands
  pub chains : (on : On) → chain_of asks on ≡ chains s call on

abbrev pub grants_in : LayerReason → On → Grants
grants_in told Itself = told.itself
grants_in told Other = told.other
grants_in told Parent = told.parent
grants_in told Left = told.left
grants_in told Entered = told.entered

-- for each `On`, which needed rights the layer grants, and by which rule; and which rights would be gained
pub record IsLayerReason (asks : Asks) (layer : Layer) (told : LayerReason) : Type 0 where
  pub grants : (on : On) → AreGrants layer (chain_of asks on) (set_on asks.demands on) (grants_in told on)
  pub fewer : (told.there.0 ≤ set_of asks.demands There) × (told.back.0 ≤ set_of asks.demands Back)
  pub there : (right : ℕ) → right < 15
      → holds told.there.0 right ≡ gaining (grants_along (chain_of asks) layer) asks.demands right New
  pub back : (right : ℕ) → right < 15
      → holds told.back.0 right ≡ gaining (grants_along (chain_of asks) layer) asks.demands right Old

-- the layer lacks no needed right, and no right would be gained
abbrev pub IsClear : LayerReason → Type 0
IsClear told = ((on : On) → (grants_in told on).missing.0 ≡ 0) × (told.there.0 ≡ 0) × (told.back.0 ≡ 0)

-- and the denial, the first of the definitions' denials. There is none if each layer is clear
pub record IsReason (s : State) (c : ClientRecord) (call : Call) (told : Reason) : Type 0 where
  pub asked : AreAsked s call told.asks
  pub denial : told.denial ≡ slice_get (call_denials s c call) 0
  pub layers : AllZip (λ one layer. IsLayerReason told.asks layer one) told.layers.items c.domain
  pub clear : AllByRecursion IsClear told.layers.items → told.denial ≡ None

-- the descriptor whose opening decided the call
abbrev pub kept_number : Call → Option ℕ
kept_number (Ftruncate fd size) = Some fd
kept_number call = None

-- The refusal that comes before policy; without one, what policy says: for a call that a descriptor's opening decided,
-- what was kept then; for any other, what the layers say
abbrev pub IsWhy : State → ClientRecord → Call → Why → Type 0
IsWhy s c call (Refused errno) = slice_get (before_policy s c call) 0 ≡ Some errno
IsWhy s c call (Kept denial) =
    (before_policy s c call ≡ []) × (denial ≡ slice_get (call_denials s c call) 0)
    × ((fd : ℕ) × (kept_number call ≡ Some fd))
IsWhy s c call (Judged told) = (before_policy s c call ≡ []) × IsReason s c call told × (kept_number call ≡ None)

abbrev pub IsNotDenied : State → ℕ → Call → Type 0
IsNotDenied s n call = (fresh : ℕ) (denial : Denial) → (step s n call fresh).0 ≢ reply.Denied denial

-- the step's answer is this denial, or no denial
abbrev pub IsJudgedSo : State → ℕ → Call → Option Denial → Type 0
IsJudgedSo s n call denial = MatchOption denial (IsNotDenied s n call) (λ d. IsRefused s n call (reply.Denied d))

-- the answer of the client's step
abbrev pub IsAnswered : State → ℕ → Call → Why → Type 0
IsAnswered s n call (Refused errno) = IsRefused s n call (reply.Refused errno)
IsAnswered s n call (Kept denial) = IsJudgedSo s n call denial
IsAnswered s n call (Judged told) = IsJudgedSo s n call told.denial
