-- How a step changes a client, and the end of a walk. own
use Rattle.std.specs.Prelude.{◌≡◌, ℕ, ◌<◌, ◌≤◌, List, [], ◌∷◌, ◌++◌, Some, None, true}
use Rattle.ll_seq.specs.declared.call.Call.{Call}
use Rattle.ll_seq.specs.declared.reply.Reply.{Reply}
use Rattle.ll_seq.specs.Memory.{takes_memory}
use Rattle.ll_laws.specs.World as world
use Rattle.ll_laws.specs.World.{advance}
use Rattle.ll_laws.specs.declared.step.Step.TheVariants as steps
use Rattle.ll_journal.specs.Book.{Book, Spares}
use Rattle.ll_journal.specs.declared.direct.Made.{Made}
use Rattle.ll_journal.specs.declared.direct.Made.TheVariants as made
use Rattle.ll_journal.specs.declared.progress.Ending.TheVariants as ending
use Rattle.ll_journal.specs.Steps.{IsAstrayAt}
use Rattle.ll_journal.specs.WalkEnds.{Ends, IsAstrayAtEnd, LeavesFree, MayTakeMemory}
use Rattle.ll_client.specs.declared.left.Leaving.{Leaving}
use Rattle.ll_client.specs.declared.left.Leaving.TheVariants.{Commit, Restart}
use Rattle.ll_client.specs.declared.left.Left.{Left}
use Rattle.ll_client.specs.declared.left.Left.TheVariants as left
use Rattle.ll_client.specs.Entries.{Knows, knows, numbered, starved_at}
use Rattle.ll_client.specs.Replies.{Fits, success}

-- one more entry, after all that the client knew of, with a reply that this call may have; its walk has ended
abbrev pub Told : Call → Reply → Knows → Knows → Type 0
Told call reply k k' =
    (k.seen < k'.seen) × Fits (success call) reply
    × (k' ≡ knows k.number (k.part ++ numbered k'.seen call reply ∷ []) k.starved k'.seen None)

-- By a call of its own, in a tree whose history may have `limit` entries. Memory runs out only for a call that needs
-- some: then the client knows of all entries made so far, and of that call
abbrev pub Gains : ℕ → Call → Knows → Made → Knows → Type 0
Gains limit call k (made.Replied reply) k' = Told call reply k k'
Gains limit call k made.HistoryFull k' = (k.seen ≤ limit) × (k' ≡ record k { seen = limit })
Gains limit call k made.NoMemory k' =
    (takes_memory call ≡ true) × (k.seen ≤ k'.seen)
    × (k' ≡ record k { starved = k.starved ++ starved_at k'.seen call ∷ []; seen = k'.seen })

-- when its walk is left: by a commit or a restart
abbrev pub Goes : ℕ → Knows → Left → Knows → Type 0
Goes limit k left.NotNow k' = k' ≡ k
Goes limit k left.Astray k' = k' ≡ k
Goes limit k (left.Answered reply) k' = (call : Call) × (k.doing ≡ Some call) × Told call reply k k'
Goes limit k left.Again k' = k' ≡ k
Goes limit k left.HistoryFull k' = (k.seen ≤ limit) × (k' ≡ record k { seen = limit; doing = None })
Goes limit k left.NoMemory k' =
    (call : Call) × (k.doing ≡ Some call) × (takes_memory call ≡ true) × (k.seen ≤ k'.seen)
    × (k' ≡ record k { starved = k.starved ++ starved_at k'.seen call ∷ []; seen = k'.seen; doing = None })

-- the step, and the world after it: a commit ends as the journal says, and a restart is above the root again
abbrev pub Leaves : Leaving → Book → ℕ → Left → Book → Type 0
Leaves Commit b number left.NotNow b' = Ends b number ending.NotNow b'
Leaves Commit b number left.Astray b' = b' ≡ b
Leaves Commit b number (left.Answered reply) b' = Ends b number (ending.Replied reply) b'
Leaves Commit b number left.Again b' = ⊥
Leaves Commit b number left.HistoryFull b' = Ends b number ending.HistoryFull b'
Leaves Commit b number left.NoMemory b' = Ends b number ending.NoMemory b'
Leaves Restart b number left.NotNow b' = advance b.world (steps.Restart number) ≡ (world.NotNow, b'.world)
Leaves Restart b number left.Astray b' = b' ≡ b
Leaves Restart b number (left.Answered reply) b' = ⊥
Leaves Restart b number left.Again b' = advance b.world (steps.Restart number) ≡ (world.Restarted, b'.world)
Leaves Restart b number left.HistoryFull b' = ⊥
Leaves Restart b number left.NoMemory b' = ⊥

-- the walk is to be left this way, and the slots aren't enough
abbrev pub IsAstray : Leaving → Book → ℕ → List ℕ → Type 0
IsAstray Commit b number slots = IsAstrayAtEnd b number slots
IsAstray Restart b number slots = IsAstrayAt b number slots

-- apart from the world nothing changes, unless a commit creates or removes a node
abbrev pub LeavesRest : Leaving → Book → ℕ → List ℕ → Book → Type 0
LeavesRest Commit b number slots b' = LeavesFree b number slots b'
LeavesRest Restart b number slots b' = b' ≡ record b { world = b'.world }

-- With these slots lent, the walk is left so. Memory may run out only where a call adds something, and other slots stay
pub record IsLeft (leaving : Leaving) (b : Book) (number : ℕ) (slots : List ℕ) (told : Left) (b' : Book) : Type 0 where
  pub leaves : Leaves leaving b number told b'
  pub astray : told ≡ left.Astray → IsAstray leaving b number slots
  pub spares : Spares b b' slots
  pub calm : told ≡ left.NoMemory → MayTakeMemory b.world number
  pub rest : LeavesRest leaving b number slots b'
