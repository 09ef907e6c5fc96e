-- The loader, which comes before all streams, in terms of what it and its children know. own
use Rattle.std.specs.Prelude.{◌≡◌, ◌<◌, ◌≤◌, ◌+◌, ℕ, length, List, [], ◌∷◌, Option, None, Some}
use Rattle.std.specs.declared.alloc.Global.{Global}
use Rattle.std.specs.declared.vec.Vec.{Vec}
use Rattle.ll_client.specs.Entries.{Knows}
use Rattle.ll_seq.specs.declared.call.Call.{Call}
use Rattle.ll_session.specs.declared.refusal.Opener.TheVariants.{Loader}
use Rattle.ll_session.specs.declared.refusal.Refusal.{Refusal}
use Rattle.ll_session.specs.Visit.{HasCome}
use Rattle.ll_session.specs.Beside.{MakesBeside, StopsBeside}

-- a client has come, and has made no call yet
abbrev pub HasBegun : Knows → Type 0
HasBegun me = HasCome me × (0 < me.seen)

-- how many entries the loader then has: one for its connect, and one for each call
abbrev pub entry_count : Option (Vec Call Global) → ℕ
entry_count None = 0
entry_count (Some calls) = length calls.items + 1

module _ (limit : ℕ) where
  -- the loader, if there is one, has made its calls, and none was refused
  abbrev pub HasLoaded : Option (Vec Call Global) → List Knows → Type 0
  HasLoaded None ks = ks ≡ []
  HasLoaded (Some calls) ks = (me : Knows) × HasBegun me × MakesBeside limit (me ∷ []) 0 calls.items ks

  -- one of them was refused like this
  abbrev pub WasStopped : Option (Vec Call Global) → Refusal → List Knows → Type 0
  WasStopped None refusal ks = ⊥
  WasStopped (Some calls) refusal ks =
      (refusal.opener ≡ Loader) × (1 ≤ refusal.calls) × (me : Knows) × HasBegun me
      × StopsBeside limit (me ∷ []) 0 calls.items refusal.calls refusal.reply ks
