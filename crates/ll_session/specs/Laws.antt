-- Calls that one session makes one after the other are the plain tree's steps, in order. Cited by contracts between
-- crates alone. own
use Rattle.std.specs.Prelude.{◌≡◌, ℕ, ◌<◌, ◌≤◌, List, [], length}
use Rattle.ll_rights.specs.declared.errno.Errno.TheVariants.{EMFILE, HistoryFull, NoMemory}
use Rattle.ll_rights.specs.declared.limits.TheConstants.{TREE_CLIENTS}
use Rattle.ll_seq.specs.declared.call.Call.{Call}
use Rattle.ll_seq.specs.declared.call.Call.TheVariants.{Spawn}
use Rattle.ll_seq.specs.declared.reply.Entry.{Entry}
use Rattle.ll_seq.specs.declared.reply.Reply.TheVariants.{Done, Refused, Spawned}
use Rattle.ll_seq.specs.declared.rules.Rules.{Rules}
use Rattle.ll_seq.specs.History.{IsLegal, state_after}
use Rattle.ll_seq.specs.State.{start}
use Rattle.ll_session.specs.Between.{IsSettled, Leads, between}
use Rattle.ll_client.specs.Closed.{IsClosed}
use Rattle.ll_client.specs.Entries.{Knows}
use Rattle.ll_journal.specs.declared.direct.Made.{Made}
use Rattle.ll_session.specs.PartySession.{Session, Called, Connects, following, joined}
use Rattle.ll_session.specs.Talk.{Asks, Spawns, Joins, Looks, reply_of, seen_by}

-- a call that creates no client gets the plain tree's reply at that point
abbrev pub CallsAreSteps : Type 0
CallsAreSteps =
    (rules : Rules) (room limit : ℕ) (ks ks' : List Knows) (place : ℕ) (call : Call) (made : Made)
    → (a : Asks limit ks place call made ks')
    → Leads rules room limit ks ks' (λ s t. Called s a.me.number call (reply_of made) t)

-- a spawned child is the next client
abbrev pub SpawnsAreSteps : Type 0
SpawnsAreSteps =
    (rules : Rules) (room limit : ℕ) (ks ks' : List Knows) (place child : ℕ) → (a : Spawns ks place child ks')
    → Leads rules room limit ks ks'
    (λ s t. Called s a.me.number Spawn (Spawned child) t × (child ≡ following s))

-- whoever connects is the next client
abbrev pub ConnectsAreSteps : Type 0
ConnectsAreSteps =
    (rules : Rules) (room limit : ℕ) (ks ks' : List Knows) (number : ℕ) → Joins ks number ks'
    → Leads rules room limit ks ks'
    (λ s t. (mid : Session) × Connects s Done mid × (joined s mid ≡ t) × (number ≡ following s))

-- a look changes nothing
abbrev pub LooksChangeNothing : Type 0
LooksChangeNothing =
    (rules : Rules) (room limit : ℕ) (ks ks' : List Knows) → Looks ks ks'
    → Leads rules room limit ks ks' (λ s t. t ≡ s)

-- How the next client's connect may fail: with HistoryFull if the history is full; else with EMFILE if there are too
-- many clients; else memory may run out
abbrev pub ConnectsMayFail : Type 0
ConnectsMayFail =
    (rules : Rules) (room limit : ℕ) (history : List Entry) (ks end : List Knows)
    → IsClosed rules room limit history end → IsSettled rules room history ks →
    let s = between rules room limit history ks in
    (limit ≤ seen_by ks → Connects s (Refused HistoryFull) s)
    × (seen_by ks < limit → TREE_CLIENTS ≤ length ks → (mid : Session) × Connects s (Refused EMFILE) mid)
    × (seen_by ks < limit → length ks < TREE_CLIENTS → Connects s (Refused NoMemory) s)

-- A session without clients is a beginning. At each point it has as many entries as any of its clients knows of. These
-- are a legal history, and lead to the tree. At the end they are all entries that the tree was closed with
abbrev pub PointsAreLegal : Type 0
PointsAreLegal =
    (rules : Rules) (room limit : ℕ) (history : List Entry) (end : List Knows)
    → IsClosed rules room limit history end → IsSettled rules room history []
    × ((ks : List Knows) → IsSettled rules room history ks →
    let s = between rules room limit history ks in
    (length s.entries ≡ seen_by ks) × IsLegal (start rules room) s.entries
    × (s.tree ≡ state_after (start rules room) s.entries))
    × (IsSettled rules room history end → (between rules room limit history end).entries ≡ history)
