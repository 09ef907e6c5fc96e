-- What the slots of a tree hold, how a client changes when its call is started, and the result of a spawn. own
use Rattle.std.specs.Prelude.{◌≡◌, ◌⊎◌, ℕ, List, [], ◌∷◌, map, length, reverse, Option, None, Some, Result, Ok, Err}
use Rattle.std.specs.Prelude.{Bool, true, false, if◌then◌else◌}
use Rattle.std.specs.Sync.Mutex.{mutex_guard_value}
use Rattle.std.specs.declared.sync.MutexGuard.{MutexGuard}
use Rattle.std.specs.List.{range_with_len}
use Rattle.ll_rights.specs.declared.errno.Errno.{Errno}
use Rattle.ll_rights.specs.declared.errno.Errno.TheVariants.{EMFILE, HistoryFull, NoMemory}
use Rattle.ll_seq.specs.declared.call.Call.{Call}
use Rattle.ll_seq.specs.declared.reply.Reply.TheVariants.{Refused, Spawned}
use Rattle.ll_seq.specs.Passed.{has_path}
use Rattle.ll_journal.specs.Book.{Book, slot_of}
use Rattle.ll_journal.specs.declared.direct.Made.{Made}
use Rattle.ll_journal.specs.declared.direct.Made.TheVariants as made
use Rattle.ll_journal.specs.declared.progress.Progress.{Progress}
use Rattle.ll_journal.specs.declared.progress.Progress.TheVariants as progress
use Rattle.ll_journal.specs.declared.start.Start.{Start}
use Rattle.ll_journal.specs.declared.start.Start.TheVariants as start
use Rattle.ll_client.specs.Entries.{Kept, Knows}
use Rattle.ll_client.specs.Gains.{Gains}

abbrev pub kept_at : Book → ℕ → Kept
kept_at b k = record { number = k; held = slot_of b k }

-- what is behind those of these locks that are held
abbrev pub kept_in : List (Option (MutexGuard Kept)) → List Kept
kept_in [] = []
kept_in (None ∷ places) = kept_in places
kept_in (Some guard ∷ places) = mutex_guard_value guard ∷ kept_in places

-- from the last to the first
abbrev pub stacked : List (Option (MutexGuard Kept)) → List Kept
stacked places = kept_in (reverse places)

abbrev pub kept_numbers : List Kept → List ℕ
kept_numbers = map (λ (k : Kept). k.number)

-- what the slots with these numbers hold by the book
abbrev pub kept_by : Book → List Kept → List Kept
kept_by b = map (λ (k : Kept). kept_at b k.number)

-- in the order of their numbers
abbrev pub all_kept : Book → List Kept
all_kept b = map (kept_at b) (range_with_len 0 (length b.inodes))

-- the call is made; or its walk begins, which needs a path; or it is returned
abbrev pub SetsOut : ℕ → Call → Knows → Start → Knows → Type 0
SetsOut limit call k (start.Made answer) k' = Gains limit call k answer k'
SetsOut limit call k start.Begun k' = (has_path call ≡ true) × (k' ≡ record k { doing = Some call })
SetsOut limit call k (start.Back back) k' = k' ≡ k

-- The result of a spawn without a child: a refusal has an entry, unless the history is full or memory ran out
abbrev pub childless : Errno → Made
childless HistoryFull = made.HistoryFull
childless NoMemory = made.NoMemory
childless errno = made.Replied (Refused errno)

-- with the child's number, or without a child
abbrev pub spawn_made : Result ℕ Errno → Made
spawn_made (Ok child) = made.Replied (Spawned child)
spawn_made (Err errno) = childless errno

-- Why no client is created: the tree has as many as it may, the history is full, or memory ran out
abbrev pub HasNoPlace : Errno → Type 0
HasNoPlace errno = (errno ≡ EMFILE) ⊎ (errno ≡ HistoryFull) ⊎ (errno ≡ NoMemory)

abbrev pub is_at_full : {C : Type 0} → Result C Errno → Bool
is_at_full (Err HistoryFull) = true
is_at_full told = false

-- a client after which another one couldn't come, since the history is full, knows of all that it may have
abbrev pub knows_full : {C : Type 0} → ℕ → Result C Errno → Knows → Knows
knows_full limit told k = if is_at_full told then record k { seen = limit } else k

-- of two that a descent leads from and to: where the walk is afterwards
abbrev pub place_after : {A : Type 0} → Progress → A → A → A
place_after (progress.Stands inode) from to = to
place_after other from to = from
