-- A client's calls for itself alone. No public contract cites it. own
use Rattle.std.specs.Prelude.{◌≡◌, ◌⊎◌, ℕ, ◌+◌, ◌<◌, ◌≤◌, true, false, List, [], ◌∷◌, ◌++◌, length, Option, Some, None}
use Rattle.std.specs.Prelude.{slice_get}
use Rattle.ll_rights.specs.Map.{get, has}
use Rattle.ll_seq.specs.declared.call.Call.{Call}
use Rattle.ll_seq.specs.declared.call.Call.TheVariants as call
use Rattle.ll_seq.specs.declared.client.ClientRecord.{ClientRecord}
use Rattle.ll_rights.specs.declared.errno.Errno.TheVariants.{EMFILE}
use Rattle.ll_rights.specs.declared.limits.TheConstants.{TREE_CLIENTS}
use Rattle.ll_seq.specs.declared.reply.Reply.{Reply}
use Rattle.ll_seq.specs.declared.reply.Reply.TheVariants as replies
use Rattle.ll_seq.specs.State.{State}
use Rattle.ll_seq.specs.Effects.{with_client, child_of}
use Rattle.ll_seq.specs.Facts.{AreKept}
use Rattle.ll_node.specs.InodeTable.{Table}
use Rattle.ll_seq.specs.declared.rules.Rules.{Rules}
use Rattle.ll_seq.specs.Step.{step, refusals}
use Rattle.ll_laws.specs.World.{is_alone}
use Rattle.ll_seq.specs.Stages.{early_refusals}
use Rattle.ll_journal.specs.Book.{Seat}
use Rattle.ll_journal.specs.declared.alone.Own.{Own}
use Rattle.ll_journal.specs.declared.alone.Own.TheVariants.{Spawn, OnRecord}
use Rattle.ll_journal.specs.declared.alone.RecordCall.{RecordCall}
use Rattle.ll_journal.specs.declared.alone.RecordCall.TheVariants.{Ruleset, Confine, Refused}

-- it is such a call on the client's record
abbrev pub Asks : ClientRecord → Call → RecordCall → Type 0
Asks c call' (Ruleset rights) = call' ≡ call.Ruleset rights
Asks c call' (Confine number) = call' ≡ call.Confine number
Asks c call' (Refused errno) = (is_alone c call' ≡ true) × (slice_get (early_refusals c call') 0 ≡ Some errno)

-- it is such a call; or None, and not one that a client makes for itself alone
abbrev pub IsOwn : ClientRecord → Call → Option Own → Type 0
IsOwn c call' None = is_alone c call' ≡ false
IsOwn c call' (Some Spawn) = call' ≡ call.Spawn
IsOwn c call' (Some (OnRecord asked)) = Asks c call' asked

-- in each tree of this ABI level where the caller has this record, the call gets this reply and leaves the record
-- `after`
abbrev pub Comes : ℕ → ClientRecord → RecordCall → Reply → ClientRecord → Type 0
Comes abi c asked reply after =
    (call' : Call) → Asks c call' asked → (s : State) (number fresh : ℕ) → s.rules.abi ≡ abi
    → get s.clients number ≡ Some c → step s number call' fresh ≡ (reply, with_client s number after)

-- nothing refuses the call in any such tree
abbrev pub IsFreeOwn : ℕ → ClientRecord → RecordCall → Type 0
IsFreeOwn abi c asked =
    (call' : Call) → Asks c call' asked → (s : State) (number : ℕ) → s.rules.abi ≡ abi
    → get s.clients number ≡ Some c → refusals s c call' ≡ []

-- The child of the client at this place gets the last seat and the last of the free slots, and its descriptors are
-- counted
pub record Spawns
    (rules : Rules) (place : ℕ) (seats : List Seat) (table : Table) (number : ℕ)
    (seats' : List Seat) (table' : Table) : Type 0 where
  pub parent : Seat
  pub there : slice_get seats place ≡ Some parent
  pub numbered : number ≡ length seats + 1
  pub spare : ℕ
  pub free-is : table.free ≡ table'.free ++ spare ∷ []
  pub seats-are : seats' ≡ seats ++ record { client = child_of rules parent.client; spare = spare; walk = None } ∷ []
  pub facts-are :
      (s : State) (client : ℕ) → AreKept s table.facts → s.rules ≡ rules → get s.clients client ≡ Some parent.client
      → has s.clients number ≡ false → AreKept (with_client s number (child_of rules parent.client)) table'.facts
  pub rest-is : table' ≡ record table { facts = table'.facts; free = table'.free }

-- a spawn is refused if there are as many clients as may be; else there is one more
abbrev pub SpawnTells : Rules → ℕ → List Seat → Table → List Seat → Table → Reply → Type 0
SpawnTells rules place seats table seats' table' reply =
    ((TREE_CLIENTS ≤ length seats) × (reply ≡ replies.Refused EMFILE) × (seats' ≡ seats) × (table' ≡ table))
    ⊎ ((length seats < TREE_CLIENTS)
    × (number : ℕ) × (reply ≡ replies.Spawned number) × Spawns rules place seats table number seats' table')
