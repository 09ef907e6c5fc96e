-- The clients that come before the first line. own
use Rattle.std.specs.Prelude.{◌≡◌, ◌≢◌, ◌⊎◌, ◌==◌, ◌+◌, ℕ, Bool, true, false, List, [], ◌∷◌, length, drop, Option}
use Rattle.std.specs.Prelude.{Some, None, if◌then◌else◌}
use Rattle.std.specs.declared.vec.Vec.{Vec}
use Rattle.std.specs.declared.alloc.Global.{Global}
use Rattle.ll_rights.specs.declared.errno.Errno.{Errno}
use Rattle.ll_seq.specs.declared.call.Call.{Call}
use Rattle.ll_seq.specs.declared.reply.Reply.{Reply}
use Rattle.ll_seq.specs.declared.reply.Reply.TheVariants.{Done, Refused}
use Rattle.ll_seq.specs.State.{start}
use Rattle.ll_plain.specs.Refusal.{is_refusal}
use Rattle.ll_session.specs.PartySession.{Session, Called, Connects, following, joined}
use Rattle.ll_session.specs.declared.refusal.Opener.{Opener}
use Rattle.ll_session.specs.declared.refusal.Opener.TheVariants.{Loader, Profile}
use Rattle.ll_session.specs.declared.refusal.Refusal.{Refusal}
use Rattle.ll_session.specs.declared.setup.Setup.{Setup}

-- a new tree, to which nobody has connected
abbrev pub fresh : Setup → Session
fresh setup = record { tree = start setup.rules setup.nodes; clients = []; entries = []; limit = setup.history }

-- a client makes these calls in turn, and none is refused
abbrev pub Makes : ℕ → Session → List Call → Session → Type 0
Makes client s [] t = t ≡ s
Makes client s (call ∷ calls) t =
    (reply : Reply) × (mid : Session) × Called s client call reply mid × (is_refusal reply ≡ false)
    × Makes client mid calls t

-- The first of them that is refused is the one with this number, from 1. It gets this reply, and leads to t
abbrev pub Stops : ℕ → Session → List Call → (number : ℕ) → Reply → Session → Type 0
Stops client s [] number reply t = ⊥
Stops client s (call ∷ calls) number reply t =
    (told : Reply) × (mid : Session) × Called s client call told mid
    × (((is_refusal told ≡ true) × (number ≡ 1) × (reply ≡ told) × (t ≡ mid))
    ⊎ ((is_refusal told ≡ false) × (later : ℕ) × (number ≡ later + 1) × Stops client mid calls later reply t))

-- How the arrival of a client ends, and with which session: it made its calls, its connect got this refusal, or its
-- call with this number did
pub data Coming : Type 0 where
  made : Session → Coming
  unconnected : Reply → Session → Coming
  unmade : (number : ℕ) → Reply → Session → Coming

-- The next client connects and makes these calls. A refused connect has no client and no entry
abbrev pub Comes : Session → List Call → Coming → Type 0
Comes s calls (made t) = (mid : Session) × Connects s Done mid × Makes (following s) (joined s mid) calls t
Comes s calls (unconnected reply t) = (mid : Session) × Connects s reply mid × (reply ≢ Done) × (t ≡ s)
Comes s calls (unmade number reply t) =
    (mid : Session) × Connects s Done mid × Stops (following s) (joined s mid) calls number reply t

-- the loader, if there is one, connects and makes its calls
abbrev pub Loads : Session → Option (Vec Call Global) → Coming → Type 0
Loads s (Some calls) end = Comes s calls.items end
Loads s None (made t) = t ≡ s
Loads s None (unconnected reply t) = ⊥
Loads s None (unmade number reply t) = ⊥

-- ---- refusals

-- a refused connect
abbrev pub unconnected_by : Opener → Errno → Refusal
unconnected_by opener errno = record { opener = opener; calls = 0; reply = Refused errno }

-- how the arrival of a client ends that this refusal keeps from its calls
abbrev pub coming_at : Refusal → Session → Coming
coming_at refusal t =
    if refusal.calls == 0 then unconnected refusal.reply t else unmade refusal.calls refusal.reply t

-- who opens: the loader ends its arrival so, or it has come, and the first client of the session does
abbrev pub EndsOpening : Opener → Setup → Coming → Type 0
EndsOpening Loader setup end = Loads (fresh setup) setup.loader end
EndsOpening Profile setup end =
    (loaded : Session) × Loads (fresh setup) setup.loader (made loaded) × Comes loaded setup.profile.items end

-- The opening is refused like this, and leads to this session: the connect or the call of the refusal's opener gets
-- that reply, and all that come before it are made
abbrev pub Refuses : Setup → Refusal → Session → Type 0
Refuses setup refusal left = EndsOpening refusal.opener setup (coming_at refusal left)

-- who isn't the loader, or makes no call
abbrev pub is_told_to : Opener → (calls : ℕ) → Bool
is_told_to Loader calls = calls == 0
is_told_to Profile calls = true

-- whether the reply is written, as the only line: unless a call of the loader is refused
abbrev pub is_told : Refusal → Bool
is_told refusal = is_told_to refusal.opener refusal.calls

-- How the opening of a run ends. begun: with a session. refused: the line of this refusal is written. stopped: nothing
-- is
pub data Opening : Type 0 where
  begun : Session → Opening
  refused : Refusal → Session → Opening
  stopped : Refusal → Opening

-- The loader comes, and then the first client of the session, to which the loader doesn't belong
abbrev pub Opens : Setup → Opening → Type 0
Opens setup (begun first) =
    (loaded t : Session) × Loads (fresh setup) setup.loader (made loaded) × Comes loaded setup.profile.items (made t)
    × (first ≡ record t { clients = drop (length loaded.clients) t.clients })
Opens setup (refused refusal left) = (is_told refusal ≡ true) × Refuses setup refusal left
Opens setup (stopped refusal) = (is_told refusal ≡ false) × (left : Session) × Refuses setup refusal left
