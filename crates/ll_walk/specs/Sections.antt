-- What a section is, and what the start of a walk results in. own
use Rattle.std.specs.Prelude.{◌≡◌, ℕ, ◌<◌, List, Option, Some, None, ⊤, true}
use Rattle.std.specs.Sync.Mutex.{mutex_guard_value}
use Rattle.std.specs.declared.sync.MutexGuard.{MutexGuard}
use Rattle.std.specs.List.{AllByRecursion}
use Rattle.ll_seq.specs.Passed.{has_path}
use Rattle.ll_seq.specs.declared.call.Call.{Call}
use Rattle.ll_journal.specs.declared.direct.Made.{Made}
use Rattle.ll_journal.specs.declared.next.Next.{Next}
use Rattle.ll_journal.specs.declared.next.Next.TheVariants as next
use Rattle.ll_journal.specs.Book.{Book, Spares}
use Rattle.ll_journal.specs.NextStep.{IsNamed}
use Rattle.ll_client.specs.Entries.{Kept, Knows}
use Rattle.ll_client.specs.CallStart.{kept_by, kept_numbers}
use Rattle.ll_client.specs.Gains.{Gains}
use Rattle.ll_journal.specs.declared.direct.Made.TheVariants as made
use Rattle.ll_client.specs.declared.left.Left.{Left}
use Rattle.ll_client.specs.declared.left.Left.TheVariants as left
use Rattle.ll_walk.specs.declared.held.Branch.{Branch}
use Rattle.ll_walk.specs.declared.held.Branch.TheVariants as branch

-- the result of the call, if the walk has ended
abbrev pub made_of : Left → Option Made
made_of (left.Answered reply) = Some (made.Replied reply)
made_of left.HistoryFull = Some made.HistoryFull
made_of left.NoMemory = Some made.NoMemory
made_of other = None

-- Between two books: what is lent agrees with the slots' accounts before and after, and no other account changed
pub record Shows (b w : Book) (before after : List Kept) : Type 0 where
  pub before_is : before ≡ kept_by b before
  pub after_is : after ≡ kept_by w before
  pub others : Spares b w (kept_numbers before)

-- None: the client's walk is under way, unchanged. Some: its call, which has a path, got this answer, and its walk has
-- ended
abbrev pub Came : ℕ → Knows → Option Made → Knows → Type 0
Came limit k None k' = k' ≡ k
Came limit k (Some made) k' =
    (call : Call) → k.doing ≡ Some call → has_path call ≡ true
    → Gains limit call (record k { doing = None }) made k'

-- the slots that the next step needs exist
abbrev pub AreThere : ℕ → Next → Type 0
AreThere slots next.Nothing = ⊤
AreThere slots next.Elsewhere = ⊤
AreThere slots (next.Restart needed) = AllByRecursion (λ slot. slot < slots) needed
AreThere slots (next.Enter to) = to < slots
AreThere slots (next.Descend on) = on.slot < slots
AreThere slots next.Fork = ⊤
AreThere slots (next.Commit needed) = AllByRecursion (λ slot. slot < slots) needed

-- For a walk for this call, in this slot's directory: the slots that its next step needs exist. If that is a descent,
-- the directory has the reported inode for the reported name
abbrev pub IsReady : ℕ → Option Call → Kept → Next → Type 0
IsReady slots doing here next = AreThere slots next × IsNamed doing here.held next

-- what is behind this lock, or behind the other if this one isn't held
abbrev pub place_or : Option (MutexGuard Kept) → MutexGuard Kept → Kept
place_or None common = mutex_guard_value common
place_or (Some guard) common = mutex_guard_value guard

-- the directory of a leg: of a branch its own, or else the one where the walk is or forked
abbrev pub leg_at : Option Branch → MutexGuard Kept → Option (MutexGuard Kept) → Option (MutexGuard Kept) → Kept
leg_at None common first second = mutex_guard_value common
leg_at (Some branch.First) common first second = place_or first common
leg_at (Some branch.Second) common first second = place_or second common
