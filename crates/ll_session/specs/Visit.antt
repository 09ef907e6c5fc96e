-- One stream's session: a client comes, makes the calls of its profile, and answers the stream's lines, while others
-- call on the same tree. Stated in terms of what its clients know. own
use Rattle.std.specs.Prelude.{◌≡◌, ◌⊎◌, ℕ, List, [], ◌∷◌, Option, None, Some, true, OnOk, IfErr}
use Rattle.std.specs.Io.KnownBytes.{Appends}
use Rattle.ll_rights.specs.declared.errno.Errno.{Errno}
use Rattle.ll_seq.specs.declared.call.Call.{Call}
use Rattle.ll_seq.specs.declared.call.Call.TheVariants.{Connect}
use Rattle.ll_seq.specs.declared.reply.Reply.TheVariants.{Done}
use Rattle.ll_client.specs.CallStart.{HasNoPlace}
use Rattle.ll_client.specs.Entries.{Knows, knows, numbered}
use Rattle.ll_wire.specs.Devices.{Devices, untouched}
use Rattle.ll_wire.specs.Reached.{AnswersAll, Blames, StartsAll}
use Rattle.ll_wire.specs.declared.fault.SessionFault.{SessionFault}
use Rattle.ll_wire.specs.declared.fault.SessionFault.TheVariants as fault
use Rattle.ll_session.specs.FirstClients.{unconnected_by}
use Rattle.ll_session.specs.declared.refusal.Opener.TheVariants.{Profile}
use Rattle.ll_session.specs.declared.refusal.Refusal.{Refusal}
use Rattle.ll_session.specs.declared.stream.Stream.{Stream}
use Rattle.ll_session.specs.Beside.{CountsBeside, MakesBeside, StopsBeside}
use Rattle.ll_session.specs.Counts.{counted, nothing}
use Rattle.ll_session.specs.declared.stream.Outcome.{Outcome}
use Rattle.ll_session.specs.declared.tally.Tally.{Tally}
use Rattle.ll_wire.specs.Grammar.{reply_line}
use Rattle.ll_wire.specs.WriterGains.{AppendsFront}

-- a client has just come: it knows of its connect, and of no later entry
abbrev pub HasCome : Knows → Type 0
HasCome me = me ≡ knows me.number (numbered me.seen Connect Done ∷ []) [] me.seen None

module _ (limit : ℕ) (profile : List Call) where
  -- the client has come and has made its profile's calls; these are it and the clients that it spawned
  abbrev pub IsReady : List Knows → Type 0
  IsReady ks = (me : Knows) × HasCome me × MakesBeside limit (me ∷ []) 0 profile ks

  -- its connect is refused like this, and there is no client; or one of the profile's calls is
  abbrev pub IsTurnedAway : Refusal → List Knows → Type 0
  IsTurnedAway refusal ks =
      ((errno : Errno) × HasNoPlace errno × (refusal ≡ unconnected_by Profile errno) × (ks ≡ []))
      ⊎ ((refusal.opener ≡ Profile) × (me : Knows) × HasCome me
      × StopsBeside limit (me ∷ []) 0 profile refusal.calls refusal.reply ks)

  -- a whole visit answered all that it read, and counted it; or it read nothing and wrote the refusal
  abbrev pub Visits : (old new : Devices) → Option Refusal → Tally → List Knows → Type 0
  Visits old new None tally ks =
      (first : List Knows) × IsReady first × AnswersAll (CountsBeside limit 0) (first, nothing) (ks, tally) old new
  Visits old new (Some refusal) tally ks =
      IsTurnedAway refusal ks × (tally ≡ counted nothing refusal.reply) × (new.remaining ≡ old.remaining)
      × Appends old.contents new.contents (reply_line refusal.reply)

  -- a visit that a fault ended answered some first lines, or wrote a prefix of the refusal
  abbrev pub Starts : (old new : Devices) → Option Refusal → Tally → List Knows → Type 0
  Starts old new None tally ks =
      (first : List Knows) × IsReady first × StartsAll (CountsBeside limit 0) (first, nothing) (ks, tally) old new
  Starts old new (Some refusal) tally ks =
      IsTurnedAway refusal ks × (tally ≡ counted nothing refusal.reply) × (new.remaining ≡ old.remaining)
      × AppendsFront old.contents new.contents (reply_line refusal.reply)

  -- it ended with this fault. Before any client comes, memory may run out
  abbrev pub StartsBy : SessionFault → (old new : Devices) → Option Refusal → Tally → List Knows → Type 0
  StartsBy fault.NoMemory old new refusal tally ks =
      ((ks ≡ []) × (new ≡ old) × (refusal ≡ None) × (tally ≡ nothing)) ⊎ Starts old new refusal tally ks
  StartsBy other old new refusal tally ks = Starts old new refusal tally ks

  -- A stream was served and ended like this, with these clients, or its client was turned away with this refusal. It is
  -- stated by what its reader has left and its writer has written
  abbrev pub WasServedSo : {R W : Type 0} → (R → Option (List ℕ)) → (W → Option (List ℕ)) → Outcome → Option Refusal
      → (came went : Stream R W) → List Knows → Type 0
  WasServedSo remaining contents outcome refusal came went ks =
      let old = untouched (remaining came.reader) (contents came.writer) true in
      (new : Devices) × (new.remaining ≡ remaining went.reader) × (new.contents ≡ contents went.writer)
      × OnOk outcome.ended (Visits old new refusal outcome.tally ks)
      × IfErr outcome.ended (λ fault. StartsBy fault old new refusal outcome.tally ks × Blames fault old new)

  -- it was served like that, whether its client was turned away or not
  abbrev pub WasServed : {R W : Type 0} → (R → Option (List ℕ)) → (W → Option (List ℕ)) → Outcome
      → (came went : Stream R W) → List Knows → Type 0
  WasServed remaining contents outcome came went ks =
      (refusal : Option Refusal) × WasServedSo remaining contents outcome refusal came went ks
