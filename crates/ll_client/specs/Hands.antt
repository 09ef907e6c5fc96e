-- How the entries change when passes are taken back and given out. No public contract cites it. own
use Rattle.std.specs.Prelude.{◌≡◌, ◌≢◌, ℕ, ◌+◌, ◌*◌, ◌≤◌, ◌==◌, Bool, true, false, List, [], ◌∷◌, ◌++◌, ⊤, Option, Some}
use Rattle.std.specs.Prelude.{None, Result, Ok, Err, length, map, if◌then◌else◌}
use Rattle.std.specs.Ordering.{nat_cmp}
use Rattle.ll_rights.specs.declared.errno.Errno.{Errno}
use Rattle.ll_rights.specs.declared.errno.Errno.TheVariants.{EMFILE, HistoryFull, NoMemory}
use Rattle.ll_rights.specs.declared.kind.Kind.TheVariants.{Dir}
use Rattle.ll_rights.specs.declared.limits.TheConstants.{TREE_CLIENTS, TREE_NODES}
use Rattle.ll_rights.specs.Map.{Map, get, has}
use Rattle.ll_seq.specs.declared.call.Call.{Call}
use Rattle.ll_seq.specs.declared.reply.Reply.{Reply}
use Rattle.ll_seq.specs.declared.reply.Reply.TheVariants as replies
use Rattle.ll_laws.specs.World.{World, shown}
use Rattle.ll_journal.specs.Book.{Book, slot_of}
use Rattle.ll_seq.specs.State.{root}
use Rattle.ll_node.specs.declared.held.Held.{Held}
use Rattle.ll_node.specs.Lent.{filled, vacant}
use Rattle.ll_node.specs.InodeTable.{AreDistinct, NotIn}
use Rattle.ll_journal.specs.declared.direct.Made.{Made}
use Rattle.ll_journal.specs.declared.direct.Made.TheVariants as made
use Rattle.ll_journal.specs.declared.start.Start.{Start}
use Rattle.ll_journal.specs.declared.start.Start.TheVariants as start
use Rattle.ll_journal.specs.declared.progress.Ending.{Ending}
use Rattle.ll_journal.specs.declared.progress.Ending.TheVariants as ending
use Rattle.ll_journal.specs.declared.progress.Progress.{Progress}
use Rattle.ll_journal.specs.declared.progress.Progress.TheVariants as outcome
use Rattle.ll_client.specs.declared.account.Account.{Account}
use Rattle.ll_client.specs.declared.account.Starved.{Starved}
use Rattle.ll_client.specs.declared.left.Left.{Left}
use Rattle.ll_client.specs.declared.left.Left.TheVariants as left
use Rattle.ll_client.specs.Closed.{HoldsPart}
use Rattle.ll_client.specs.Entries.{AreAccounts, Knows, doing_of, starved_at}

-- no slot of this list has an entry
abbrev pub AllOut : List ℕ → Map nat_cmp Account → Type 0
AllOut [] m = ⊤
AllOut (k ∷ ks) m = (get m (3 * k) ≡ None) × AllOut ks m

-- a slot's entry was removed, no client's, and the slot is none of those whose entries were removed before
pub record SlotGoes (k : ℕ) (m n : Map nat_cmp Account) : Type 0 where
  pub clients : (d : ℕ) → get n (3 * d + 1) ≡ get m (3 * d + 1)
  pub out : (ks : List ℕ) → AllOut ks m → AllOut (k ∷ ks) n × NotIn k ks

-- a client's entry was removed, and no other client's
pub record ClientGoes (c : ℕ) (m n : Map nat_cmp Account) : Type 0 where
  pub was : get m (3 * c + 1) ≢ None
  pub others : (d : ℕ) → d ≢ c → get n (3 * d + 1) ≡ get m (3 * d + 1)
  pub out : (ks : List ℕ) → AllOut ks m → AllOut ks n
  pub gone : get n (3 * c + 1) ≡ None

-- no entry of a slot or of a client was added or removed
pub record OnlyWants (m n : Map nat_cmp Account) : Type 0 where
  pub out : (ks : List ℕ) → AllOut ks m → AllOut ks n
  pub clients : (d : ℕ) → get n (3 * d + 1) ≡ get m (3 * d + 1)

-- a slot's entry was added
pub record SlotComes (k c : ℕ) (m n : Map nat_cmp Account) : Type 0 where
  pub out : (ks : List ℕ) → NotIn k ks → AllOut ks m → AllOut ks n
  pub client : get m (3 * c + 1) ≡ None → get n (3 * c + 1) ≡ None

-- While a client and some slots have no pass: what these slots hold is lent, and every other pass shows an account
pub record AreLent (b : Book) (m : Map nat_cmp Account) (c : ℕ) (numbers : List ℕ) (held : List Held) : Type 0 where
  pub all : AreAccounts b m
  pub few : length b.inodes ≤ TREE_NODES + TREE_CLIENTS
  pub distinct : AreDistinct numbers
  pub out : AllOut numbers m
  pub alone : get m (3 * c + 1) ≡ None
  pub held_is : held ≡ map (slot_of b) numbers

-- what the slot with this number holds in a new tree
abbrev pub held_first : ℕ → Held
held_first k = if k == 0 then filled root Dir else vacant

-- a client that has just come: it exists, has no walk, and neither pass with its number is given out
pub record HasCome (b : Book) (c : ℕ) (m : Map nat_cmp Account) : Type 0 where
  pub there : has (shown b.world).clients c ≡ true
  pub few : c ≤ TREE_CLIENTS
  pub idle : doing_of b.world c ≡ None
  pub free : get m (3 * c + 1) ≡ None
  pub sated : get m (3 * c + 2) ≡ None

-- the client holds its part of this world's history
abbrev pub HoldsPartIn : World → Knows → Type 0
HoldsPartIn w k = HoldsPart w.rules w.room w.limit w.history k

-- ---- how a walk is left, by what the journal returns

abbrev pub ended_as : Ending → Left
ended_as ending.NotNow = left.NotNow
ended_as ending.Astray = left.Astray
ended_as (ending.Replied reply) = left.Answered reply
ended_as ending.HistoryFull = left.HistoryFull
ended_as ending.NoMemory = left.NoMemory

-- a restart neither descends nor forks
abbrev pub restarted_as : Progress → Left
restarted_as outcome.Astray = left.Astray
restarted_as outcome.Restarted = left.Again
restarted_as other = left.NotNow

-- the last entry that the client knows of then, if the history has `entries` entries
abbrev pub seen_of : Left → ℕ → ℕ → ℕ
seen_of left.NotNow seen entries = seen
seen_of left.Astray seen entries = seen
seen_of left.Again seen entries = seen
seen_of ended seen entries = entries

-- the last entry that the client knows of after a call that doesn't walk
abbrev pub seen_made : {E : Type 0} → Result Made E → ℕ → ℕ → ℕ
seen_made (Ok answer) seen entries = entries
seen_made (Err back) seen entries = seen

-- the last entry that the client knows of after a call was started
abbrev pub seen_started : Start → ℕ → ℕ → ℕ
seen_started (start.Made answer) seen entries = seen_made {E = Call} (Ok answer) seen entries
seen_started start.Begun seen entries = seen
seen_started (start.Back back) seen entries = seen

-- ---- whether memory ran out

abbrev pub starves_left : Left → Bool
starves_left left.NoMemory = true
starves_left other = false

abbrev pub starves_made : {E : Type 0} → Result Made E → Bool
starves_made (Ok made.NoMemory) = true
starves_made other = false

abbrev pub starves_started : Start → Bool
starves_started (start.Made answer) = starves_made {E = Call} (Ok answer)
starves_started start.Begun = false
starves_started (start.Back back) = false

-- the client's calls for which memory ran out, with this one added; the history has this many entries
abbrev pub with_starved : List Starved → ℕ → Option Call → List Starved
with_starved starved entries None = starved
with_starved starved entries (Some call) = starved ++ starved_at entries call ∷ []

-- with this call added if memory ran out for it
abbrev pub starved_if : Bool → List Starved → ℕ → Option Call → List Starved
starved_if ran_out starved entries call = if ran_out then with_starved starved entries call else starved

-- of a client whose walk was left so
abbrev pub starved_after : Left → Book → ℕ → List Starved → List Starved
starved_after it b c starved = starved_if (starves_left it) starved (length b.world.history) (doing_of b.world c)

-- ---- the result of a spawn, by what the journal returns. A spawn's reply is the child's number or a refusal

abbrev pub child_told : Reply → Result ℕ Errno
child_told (replies.Spawned number) = Ok number
child_told (replies.Refused errno) = Err errno
child_told _ = Err EMFILE

-- an idle client's spawn is never returned
abbrev pub child_of : Result Made Call → Result ℕ Errno
child_of (Ok (made.Replied reply)) = child_told reply
child_of (Ok made.HistoryFull) = Err HistoryFull
child_of (Ok made.NoMemory) = Err NoMemory
child_of (Err back) = Err EMFILE
