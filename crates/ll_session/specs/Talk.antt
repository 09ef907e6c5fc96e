-- How the clients of a shared tree change that one session owns and that call one after the other. own
use Rattle.std.specs.Prelude.{◌≡◌, ◌⊎◌, ℕ, ◌<◌, ◌≤◌, max, Bool, true, false, List, [], ◌∷◌, ◌++◌, None, Some}
use Rattle.std.specs.Prelude.{slice_get, slice_set}
use Rattle.ll_rights.specs.declared.errno.Errno.TheVariants as errnos
use Rattle.ll_seq.specs.declared.call.Call.{Call}
use Rattle.ll_seq.specs.declared.call.Call.TheVariants.{Connect, Spawn}
use Rattle.ll_seq.specs.declared.reply.Reply.{Reply}
use Rattle.ll_seq.specs.declared.reply.Reply.TheVariants.{Done, Spawned, Refused}
use Rattle.ll_seq.specs.History.{is_connect}
use Rattle.ll_journal.specs.declared.direct.Made.TheVariants as made
use Rattle.ll_journal.specs.declared.direct.Made.{Made}
use Rattle.ll_client.specs.Entries.{Knows, knows, numbered}
use Rattle.ll_client.specs.Gains.{Gains, Told}

-- the number of the last entry that any of them knows of
abbrev pub seen_by : List Knows → ℕ
seen_by [] = 0
seen_by (k ∷ ks) = max k.seen (seen_by ks)

-- a client that has met all of them
abbrev pub met : List Knows → Knows → Knows
met ks k = record k { seen = seen_by ks }

-- the client at this place knows of all that any of them knows of, or there is no client
abbrev pub IsLast : List Knows → ℕ → Type 0
IsLast ks place = (ks ≡ []) ⊎ ((k : Knows) × (slice_get ks place ≡ Some k) × (k.seen ≡ seen_by ks))

-- the client at this place has met all of them
abbrev pub IsMet : List Knows → ℕ → List Knows → Type 0
IsMet ks place ks' = (me : Knows) × (slice_get ks place ≡ Some me) × (ks' ≡ slice_set ks place (met ks me))

-- the clients at these two places have met: both know of all that either knew of
abbrev pub HaveMet : List Knows → (one other : ℕ) → List Knows → Type 0
HaveMet ks one other ks' = (a : Knows) × (b : Knows) × (slice_get ks one ≡ Some a) × (slice_get ks other ≡ Some b)
    × (ks' ≡ slice_set (slice_set ks one (record a { seen = max a.seen b.seen })) other
    (record b { seen = max a.seen b.seen }))

-- the call created a child
abbrev pub is_birth : Made → Bool
is_birth (made.Replied (Spawned number)) = true
is_birth _ = false

-- the reply to a call with this result
abbrev pub reply_of : Made → Reply
reply_of (made.Replied reply) = reply
reply_of made.HistoryFull = Refused errnos.HistoryFull
reply_of made.NoMemory = Refused errnos.NoMemory

-- The client at this place has met all others, and makes the call. It isn't a connect, and creates no child
pub record Asks (limit : ℕ) (ks : List Knows) (place : ℕ) (call : Call) (made : Made) (ks' : List Knows) : Type 0 where
  pub me : Knows
  pub now : Knows
  pub at : slice_get ks place ≡ Some me
  pub other : is_connect call ≡ false
  pub childless : is_birth made ≡ false
  pub gains : Gains limit call (met ks me) made now
  pub after : ks' ≡ slice_set ks place now

-- the client at this place spawns this child, which is the last client
pub record Spawns (ks : List Knows) (place child : ℕ) (ks' : List Knows) : Type 0 where
  pub me : Knows
  pub now : Knows
  pub at : slice_get ks place ≡ Some me
  pub told : Told Spawn (Spawned child) (met ks me) now
  pub after : ks' ≡ slice_set ks place now ++ knows child [] [] now.seen None ∷ []

-- the call of the client at this place gets this reply; it creates a child or not
abbrev pub AsksFor : (limit : ℕ) → List Knows → (place : ℕ) → Call → Reply → List Knows → Type 0
AsksFor limit ks place call reply ks' =
    ((child : ℕ) × (call ≡ Spawn) × Spawns ks place child ks' × (reply ≡ Spawned child))
    ⊎ ((it : Made) × Asks limit ks place call it ks' × (reply ≡ reply_of it))

-- a client connects, with an entry later than all that any of them knows of
pub record Joins (ks : List Knows) (number : ℕ) (ks' : List Knows) : Type 0 where
  pub seen : ℕ
  pub later : seen_by ks < seen
  pub after : ks' ≡ ks ++ knows number (numbered seen Connect Done ∷ []) [] seen None ∷ []

-- the client at this place knows of all entries made so far
pub record LooksAt (ks : List Knows) (place : ℕ) (ks' : List Knows) : Type 0 where
  pub me : Knows
  pub seen : ℕ
  pub at : slice_get ks place ≡ Some me
  pub later : seen_by ks ≤ seen
  pub after : ks' ≡ slice_set ks place (record me { seen = seen })

-- one of them does, if there is a client
abbrev pub Looks : (ks ks' : List Knows) → Type 0
Looks ks ks' = ((ks ≡ []) × (ks' ≡ [])) ⊎ ((place : ℕ) × LooksAt ks place ks')

-- they have made calls, and looked at the history's length, any number of times
pub data Goes (limit : ℕ) (ks : List Knows) : List Knows → Type 0 where
  nowhere : Goes limit ks ks
  asks : (mid ks' : List Knows) (place : ℕ) (call : Call) (reply : Reply) → Goes limit ks mid
      → AsksFor limit mid place call reply ks' → Goes limit ks ks'
  looks : (mid ks' : List Knows) → Goes limit ks mid → Looks mid ks' → Goes limit ks ks'

-- first one, then the other
pub goes_on : (limit : ℕ) (is js ks : List Knows) → Goes limit is js → Goes limit js ks → Goes limit is ks
goes_on limit is js ks one nowhere = one
goes_on limit is js ks one (asks mid end place call reply before act) =
    asks mid end place call reply (goes_on limit is js mid one before) act
goes_on limit is js ks one (looks mid end before act) = looks mid end (goes_on limit is js mid one before) act
