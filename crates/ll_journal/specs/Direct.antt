-- What calls that don't walk do, and when memory may run out. own
use Rattle.std.specs.Prelude.{◌≡◌, ◌≢◌, ◌⊎◌, ℕ, [], ◌∷◌, ◌++◌, Bool, true, false, not, Some, None}
use Rattle.ll_rights.specs.declared.access.Access.{Access}
use Rattle.ll_rights.specs.Map.{get, has}
use Rattle.ll_rights.specs.declared.errno.Errno.TheVariants.{HistoryFull}
use Rattle.ll_seq.specs.declared.call.Call.{Call}
use Rattle.ll_seq.specs.declared.call.Call.TheVariants.{Ruleset, Confine, Spawn, Close}
use Rattle.ll_seq.specs.declared.client.ClientRecord.{ClientRecord}
use Rattle.ll_seq.specs.declared.client.Descriptor.{Descriptor}
use Rattle.ll_seq.specs.declared.reply.Reply.{Reply}
use Rattle.ll_seq.specs.declared.reply.Reply.TheVariants.{Refused, Denied}
use Rattle.ll_seq.specs.Memory.{MayStarve}
use Rattle.ll_seq.specs.State.{kind_of}
use Rattle.ll_laws.specs.World as world
use Rattle.ll_laws.specs.declared.step.Step.TheVariants as steps
use Rattle.ll_laws.specs.World.{World, advance, called, shown, descriptor_of, is_full}
use Rattle.ll_laws.specs.declared.step.Step.{Step}
use Rattle.ll_node.specs.InodeTable.{without_inode}
use Rattle.ll_journal.specs.declared.direct.Made.{Made}
use Rattle.ll_journal.specs.declared.direct.Made.TheVariants as answer
use Rattle.ll_journal.specs.declared.open_file.Unmade.{Unmade}
use Rattle.ll_journal.specs.declared.open_file.Unmade.TheVariants as unmade
use Rattle.ll_journal.specs.declared.start.Start.{Start}
use Rattle.ll_journal.specs.declared.start.Start.TheVariants as start
use Rattle.ll_journal.specs.Book.{Book, inode_in}

-- the call is refused, or denied
abbrev pub is_refusal : Reply → Bool
is_refusal (Refused errno) = true
is_refusal (Denied denial) = true
is_refusal _ = false

-- answered, and not by a refusal
abbrev pub succeeds : world.Outcome → Bool
succeeds (world.Replied reply) = not (is_refusal reply)
succeeds (world.Joined number) = true
succeeds other = false

-- the step's call may find no memory in the visible tree; the history has room, and the step would succeed
pub record Starves (w : World) (step' : Step) : Type 0 where
  pub client : ℕ
  pub call : Call
  pub is : called w step' ≡ Some (client, call)
  pub may : MayStarve (shown w) client call
  pub room : is_full w ≡ false
  pub would : succeeds (advance w step').0 ≡ true

-- The outcome and the world are the step's. A full history takes no entry. If memory runs out, for a call that nothing
-- refuses, the step isn't made
abbrev pub Answers : Book → Step → Made → Book → Type 0
Answers b step' (answer.Replied reply) b' =
    (is_full b.world ≡ false) × (advance b.world step' ≡ (world.Replied reply, b'.world))
Answers b step' answer.HistoryFull b' =
    (advance b.world step' ≡ (world.Replied (Refused HistoryFull), b'.world)) × (b' ≡ b)
Answers b step' answer.NoMemory b' = (b' ≡ b) × Starves b.world step'

-- The client's own step makes the call; or that step isn't enabled, and the call's walk begins; or neither step is
-- enabled
abbrev pub Starts : Book → ℕ → Call → Start → Book → Type 0
Starts b client call (start.Made answer) b' = Answers b (steps.ClientStep client call) answer b'
Starts b client call start.Begun b' =
    (advance b.world (steps.ClientStep client call) ≡ (world.NotNow, b.world))
    × (advance b.world (steps.Begin client call) ≡ (world.Begun, b'.world))
Starts b client call (start.Back back) b' =
    (back ≡ call) × (b' ≡ b) × (advance b.world (steps.ClientStep client call) ≡ (world.NotNow, b.world))
    × (advance b.world (steps.Begin client call) ≡ (world.NotNow, b.world))

-- the calls for the client alone that may take memory
abbrev pub TakesMemory : Call → Type 0
TakesMemory call =
    ((rights : Access) × (call ≡ Ruleset rights)) ⊎ ((number : ℕ) × (call ≡ Confine number)) ⊎ (call ≡ Spawn)

-- a new client takes the last of the free slots as its spare
pub record TakesSpare (b b' : Book) : Type 0 where
  pub slot : ℕ
  pub free : b.free ≡ b'.free ++ slot ∷ []
  pub spares : b'.spares ≡ b.spares ++ slot ∷ []
  pub inodes : b'.inodes ≡ b.inodes

-- apart from the world nothing changes, unless a client was spawned
abbrev pub LeavesSlots : Call → Book → Book → Type 0
LeavesSlots call b b' = (b' ≡ record b { world = b'.world }) ⊎ ((call ≡ Spawn) × TakesSpare b b')

-- ---- Calls on descriptors

-- the client exists, and has this descriptor under this number
pub record IsOpen (w : World) (client number : ℕ) (file : Descriptor) : Type 0 where
  pub caller : ClientRecord
  pub there : get (shown w).clients client ≡ Some caller
  pub holds : get caller.descriptors number ≡ Some file

-- The call is on a descriptor that the client has, but its file isn't in the slot. The client has no walk under way
pub record IsAstrayOn (b : Book) (client : ℕ) (call : Call) (slot : ℕ) : Type 0 where
  pub number : ℕ
  pub file : Descriptor
  pub on : descriptor_of call ≡ Some number
  pub is_open : IsOpen b.world client number file
  pub idle : get b.world.walks client ≡ None
  pub elsewhere : inode_in b slot ≢ file.inode

-- The call is returned: its step isn't enabled, or the lent slot isn't the file's
abbrev pub ComesBack : Book → ℕ → Call → ℕ → Unmade → Type 0
ComesBack b client call slot (unmade.NotNow back) =
    (back ≡ call) × (advance b.world (steps.FdCommit client call) ≡ (world.NotNow, b.world))
ComesBack b client call slot (unmade.Astray back) = (back ≡ call) × IsAstrayOn b client call slot

-- the node in the slot was removed, and the slot is the last of the free ones
pub record FreesSlot (b b' : Book) (slot : ℕ) : Type 0 where
  pub there : has (shown b.world).nodes (inode_in b slot) ≡ true
  pub gone : kind_of (shown b'.world) (inode_in b slot) ≡ None
  pub inodes : b'.inodes ≡ without_inode b.inodes (inode_in b slot)
  pub free : b'.free ≡ b.free ++ slot ∷ []
  pub spares : b'.spares ≡ b.spares

-- apart from the world nothing changes, unless a close removes the node in the slot
abbrev pub LeavesSlot : Call → ℕ → Book → Book → Type 0
LeavesSlot call slot b b' =
    (b' ≡ record b { world = b'.world }) ⊎ ((number : ℕ) × (call ≡ Close number) × FreesSlot b b' slot)
