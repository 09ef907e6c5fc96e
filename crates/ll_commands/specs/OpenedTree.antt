-- A tree that was opened with a policy. own
use Rattle.std.specs.Prelude.{◌≡◌, ◌⊎◌, ⊤, ◌+◌, ℕ, true, false, List, [], ◌∷◌, Option, Some, None}
use Rattle.std.specs.declared.vec.Vec.{Vec}
use Rattle.std.specs.declared.alloc.Global.{Global}
use Rattle.ll_rights.specs.Map.{has}
use Rattle.ll_seq.specs.declared.call.Call.{Call}
use Rattle.ll_seq.specs.declared.call.Call.TheVariants.{Connect}
use Rattle.ll_seq.specs.declared.reply.Reply.{Reply}
use Rattle.ll_seq.specs.State.{State, start}
use Rattle.ll_seq.specs.Step.{step}
use Rattle.ll_plain.specs.Refusal.{is_refusal}
use Rattle.ll_program.specs.declared.failure.Failure.{Failure}
use Rattle.ll_program.specs.declared.failure.Failure.TheVariants as failure
use Rattle.ll_session.specs.declared.refusal.Opener.{Opener}
use Rattle.ll_session.specs.declared.refusal.Opener.TheVariants.{Loader, Profile}
use Rattle.ll_session.specs.declared.refusal.Refusal.{Refusal}
use Rattle.ll_session.specs.declared.setup.Setup.{Setup}

-- the client makes this call, which isn't refused. fresh: a spawned client's number
abbrev pub MakesOne : ℕ → State → Call → State → Type 0
MakesOne client s call t = (fresh : ℕ) × (is_refusal (step s client call fresh).0 ≡ false)
    × (t ≡ (step s client call fresh).1)

-- it gets this reply, which refuses it
abbrev pub IsRefusedThere : ℕ → State → Call → Reply → Type 0
IsRefusedThere client s call reply =
    (fresh : ℕ) × (is_refusal reply ≡ true) × (reply ≡ (step s client call fresh).0)

-- it makes these in turn, and none is refused
abbrev pub Makes : ℕ → State → List Call → State → Type 0
Makes client s [] t = t ≡ s
Makes client s (call ∷ calls) t = (mid : State) × MakesOne client s call mid × Makes client mid calls t

-- the first of them that is refused comes after so many, and gets this reply
abbrev pub Stops : ℕ → State → List Call → (before : ℕ) → Reply → Type 0
Stops client s [] before reply = ⊥
Stops client s (call ∷ calls) before reply =
    ((before ≡ 0) × IsRefusedThere client s call reply)
    ⊎ ((mid : State) × MakesOne client s call mid × (after : ℕ) × (before ≡ after + 1)
    × Stops client mid calls after reply)

-- a new client connects, and makes these calls
abbrev pub Comes : ℕ → State → List Call → State → Type 0
Comes client s calls t = (has s.clients client ≡ false) × Makes client s (Connect ∷ calls) t

abbrev pub Loads : State → Option (Vec Call Global) → State → Type 0
Loads s None t = t ≡ s
Loads s (Some calls) t = (loader : ℕ) × Comes loader s calls.items t

-- in a new tree the loader comes, if there is one, and then the client of the profile
abbrev pub Opens : Setup → ℕ → State → Type 0
Opens setup client t =
    (loaded : State) × Loads (start setup.rules setup.nodes) setup.loader loaded
    × Comes client loaded setup.profile.items t

-- a call of the loader is refused like this
abbrev pub IsLoadStopped : State → Option (Vec Call Global) → Refusal → Type 0
IsLoadStopped s None refusal = ⊥
IsLoadStopped s (Some calls) refusal =
    (loader : ℕ) × Stops loader s (Connect ∷ calls.items) refusal.calls refusal.reply

-- a connect or a call of one of them is refused like this, and all before it are made
abbrev pub IsStopped : Setup → Refusal → Type 0
IsStopped setup refusal =
    ((refusal.opener ≡ Loader) × IsLoadStopped (start setup.rules setup.nodes) setup.loader refusal)
    ⊎ ((refusal.opener ≡ Profile)
    × (loaded : State) × Loads (start setup.rules setup.nodes) setup.loader loaded
    × (client : ℕ) × Stops client loaded (Connect ∷ setup.profile.items) refusal.calls refusal.reply)

-- the refusal of a call, after which this client has made so many
abbrev pub refused_by : Opener → ℕ → Reply → Refusal
refused_by opener calls reply = record { opener = opener; calls = calls; reply = reply }

-- memory ran out, or a call is refused like this
abbrev pub FailsSo : (Refusal → Type 0) → Failure → Type 0
FailsSo IsSo (failure.Opening refusal) = IsSo refusal
FailsSo IsSo failure.NoMemory = ⊤
FailsSo IsSo other = ⊥
