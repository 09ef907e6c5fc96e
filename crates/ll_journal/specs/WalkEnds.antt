-- The outcome of a commit, and which slots it needs. own
use Rattle.std.specs.Prelude.{◌≡◌, ◌⊎◌, ℕ, ◌-◌, Bool, true, false, List, [], map, is_none, Some, slice_index_or, ◌∷◌}
use Rattle.std.specs.Prelude.{◌++◌, slice_set}
use Rattle.ll_rights.specs.Map.{get, has}
use Rattle.ll_rights.specs.declared.errno.Errno.TheVariants.{HistoryFull}
use Rattle.ll_path.specs.declared.target.Target.{Target}
use Rattle.ll_seq.specs.declared.call.Call.{Call}
use Rattle.ll_seq.specs.declared.call.Call.TheVariants as call
use Rattle.ll_seq.specs.declared.reply.Reply.TheVariants.{Refused}
use Rattle.ll_seq.specs.Call.{path_of}
use Rattle.ll_seq.specs.Memory.{takes_memory}
use Rattle.ll_seq.specs.State.{State}
use Rattle.ll_seq.specs.Tree.{named}
use Rattle.ll_laws.specs.Walk.{Walk, at_ends, is_in, marks}
use Rattle.ll_laws.specs.World as world
use Rattle.ll_laws.specs.World.{World, advance, shown, is_full, last_node, without_walk}
use Rattle.ll_laws.specs.declared.step.Step.TheVariants.{Commit}
use Rattle.ll_journal.specs.declared.progress.Ending.{Ending}
use Rattle.ll_journal.specs.declared.progress.Ending.TheVariants as ending
use Rattle.ll_journal.specs.Book.{Book, inode_in}
use Rattle.ll_journal.specs.Direct.{FreesSlot}
use Rattle.ll_journal.specs.Direct.{Starves}

-- The outcome and the world are the step's. Astray is no outcome of a step: then nothing changes. If memory runs out,
-- for a call that nothing refuses, the walk ends without an answer in the history
abbrev pub Ends : Book → ℕ → Ending → Book → Type 0
Ends b number ending.NotNow b' = advance b.world (Commit number) ≡ (world.NotNow, b'.world)
Ends b number ending.Astray b' = b' ≡ b
Ends b number (ending.Replied reply) b' =
    (is_full b.world ≡ false) × (advance b.world (Commit number) ≡ (world.Replied reply, b'.world))
Ends b number ending.HistoryFull b' = advance b.world (Commit number) ≡ (world.Replied (Refused HistoryFull), b'.world)
Ends b number ending.NoMemory b' = Starves b.world (Commit number) × (b'.world ≡ without_walk b.world number)

-- the nodes with last names of its paths that the call may change or report on
abbrev pub nodes_at_end : State → Call → List ℕ
nodes_at_end s (call.Open mode target) = last_node s (path_of target)
nodes_at_end s (call.Truncate target size) = last_node s (path_of target)
nodes_at_end s (call.ReadDir target) = last_node s (path_of target)
nodes_at_end s (call.Stat target) = last_node s (path_of target)
nodes_at_end s (call.Unlink target) = last_node s (path_of target)
nodes_at_end s (call.Rmdir target) = last_node s (path_of target)
nodes_at_end s (call.Rename from into) = last_node s (path_of into)
nodes_at_end s (call.RenameNoreplace from into) = last_node s (path_of into)
nodes_at_end s other = []

-- the call creates a node, unless something refuses it
abbrev pub would_make : State → Call → Bool
would_make s (call.Make kind target) = true
would_make s (call.Open mode target) = is_none (named s (path_of target))
would_make s other = false

-- the slot reserved for the client
abbrev pub spare_of : Book → ℕ → ℕ
spare_of b number = slice_index_or b.spares (number - 1) 0

-- the inode is in one of the slots
abbrev pub is_lent : Book → List ℕ → ℕ → Bool
is_lent b slots inode = is_in (map (inode_in b) slots) inode

-- All slots that the walk's commit may need: those of the directories where it is. At its ends also those of the nodes
-- above, and the spare slot if it would create a node
pub record AreEnough (b : Book) (number : ℕ) (walk : Walk) (slots : List ℕ) : Type 0 where
  pub marked : (inode : ℕ) → marks walk inode ≡ true → is_lent b slots inode ≡ true
  pub nodes :
      at_ends walk.call walk.at ≡ true → (inode : ℕ) → is_in (nodes_at_end (shown b.world) walk.call) inode ≡ true
      → is_lent b slots inode ≡ true
  pub spare :
      at_ends walk.call walk.at ≡ true → would_make (shown b.world) walk.call ≡ true
      → is_in slots (spare_of b number) ≡ true

-- the slot is one of these
abbrev pub IsNeeded : Book → ℕ → Walk → ℕ → Type 0
IsNeeded b number walk slot =
    (marks walk (inode_in b slot) ≡ true)
    ⊎ ((at_ends walk.call walk.at ≡ true) × (is_in (nodes_at_end (shown b.world) walk.call) (inode_in b slot) ≡ true))
    ⊎ ((at_ends walk.call walk.at ≡ true) × (would_make (shown b.world) walk.call ≡ true) × (slot ≡ spare_of b number))

-- the walk goes on, and the slots aren't enough
abbrev pub IsAstrayAtEnd : Book → ℕ → List ℕ → Type 0
IsAstrayAtEnd b number slots =
    (walk : Walk) × (get b.world.walks number ≡ Some walk) × (walk.stale ≡ false) × ¬ AreEnough b number walk slots

-- the walk's call takes memory
abbrev pub MayTakeMemory : World → ℕ → Type 0
MayTakeMemory w number = (walk : Walk) × (get w.walks number ≡ Some walk) × (takes_memory walk.call ≡ true)

-- the walk's call would create a node
abbrev pub MayMake : World → ℕ → Type 0
MayMake w number = (walk : Walk) × (get w.walks number ≡ Some walk) × (would_make (shown w) walk.call ≡ true)

-- the call removes a name, or may give it to another node
abbrev pub TakesName : Call → Type 0
TakesName call' =
    ((target : Target) × (call' ≡ call.Unlink target)) ⊎ ((target : Target) × (call' ≡ call.Rmdir target))
    ⊎ ((from : Target) × (into : Target) × (call' ≡ call.Rename from into))

-- the walk's call may remove the last name of a node
abbrev pub MayLetGo : World → ℕ → Type 0
MayLetGo w number = (walk : Walk) × (get w.walks number ≡ Some walk) × TakesName walk.call

-- A node was created: it is in the client's old spare slot, and the last of the free slots is its new spare
pub record MakesNode (b b' : Book) (number : ℕ) : Type 0 where
  pub may : MayMake b.world number
  pub slot : ℕ
  pub made : has (shown b'.world).nodes (shown b.world).next ≡ true
  pub inodes : b'.inodes ≡ slice_set b.inodes (spare_of b number) (shown b.world).next
  pub free : b.free ≡ b'.free ++ slot ∷ []
  pub spares : b'.spares ≡ slice_set b.spares (number - 1) slot

-- Apart from the world nothing changes, unless a node is created, or one in these slots is removed
abbrev pub LeavesFree : Book → ℕ → List ℕ → Book → Type 0
LeavesFree b number slots b' =
    (b' ≡ record b { world = b'.world }) ⊎ MakesNode b b' number
    ⊎ ((slot : ℕ) × MayLetGo b.world number × (is_in slots slot ≡ true) × FreesSlot b b' slot)
