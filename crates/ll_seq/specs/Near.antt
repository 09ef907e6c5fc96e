-- Which nodes an effect touches, in terms of what is found. Cited by contracts between crates alone. own
use Rattle.std.specs.Prelude.{◌≡◌, ℕ, Bool, true, false, ◌==◌, List, [], ◌∷◌, Option, Some, None, is_none}
use Rattle.std.specs.List.{AllByRecursion, list_any}
use Rattle.std.specs.Option.{option_map_or}
use Rattle.ll_seq.specs.declared.call.Call.{Call}
use Rattle.ll_seq.specs.declared.call.Call.TheVariants as call
use Rattle.ll_seq.specs.declared.changes.Answer.{Answer}
use Rattle.ll_seq.specs.declared.changes.Answer.TheVariants.{Done, Opened, Status, Names}
use Rattle.ll_seq.specs.declared.changes.At.{At}
use Rattle.ll_seq.specs.declared.changes.Change.{Change}
use Rattle.ll_seq.specs.declared.changes.Change.TheVariants.{Nothing, Make, Take, Name, Move, Replace, Exchange}
use Rattle.ll_seq.specs.declared.changes.Change.TheVariants.{Resize, Open, Allow}
use Rattle.ll_seq.specs.declared.changes.Effect.{Effect}
use Rattle.ll_seq.specs.declared.found.Found.{Found}
use Rattle.ll_seq.specs.declared.found.Spot.{Spot}

-- the node with the last name, or 0
abbrev pub inode_at : Spot → ℕ
inode_at spot = option_map_or (λ there. there.inode) spot.there 0

-- the nodes, other than its paths' directories, that a call may change or report on
abbrev pub nodes_of : Call → Found → List ℕ
nodes_of (call.Make kind target) found = []
nodes_of (call.Open mode target) found = inode_at found.first ∷ []
nodes_of (call.Read fd offset count) found = []
nodes_of (call.Write fd offset bytes) found = []
nodes_of (call.Ftruncate fd size) found = []
nodes_of (call.Close fd) found = []
nodes_of (call.Truncate target size) found = inode_at found.first ∷ []
nodes_of (call.ReadDir target) found = inode_at found.first ∷ []
nodes_of (call.Stat target) found = inode_at found.first ∷ []
nodes_of (call.Exec target) found = []
nodes_of (call.Unlink target) found = inode_at found.first ∷ []
nodes_of (call.Rmdir target) found = inode_at found.first ∷ []
nodes_of (call.Rename from into) found = inode_at found.second ∷ []
nodes_of (call.RenameNoreplace from into) found = inode_at found.second ∷ []
nodes_of (call.Exchange from into) found = []
nodes_of (call.Link from into) found = []
nodes_of (call.Ruleset rights) found = []
nodes_of (call.Allow number target rights) found = []
nodes_of (call.Confine number) found = []
nodes_of call.Spawn found = []
nodes_of call.Connect found = []

-- the call may create a node
abbrev pub may_make : Call → Found → Bool
may_make (call.Make kind target) found = true
may_make (call.Open mode target) found = is_none found.first.there
may_make (call.Read fd offset count) found = false
may_make (call.Write fd offset bytes) found = false
may_make (call.Ftruncate fd size) found = false
may_make (call.Close fd) found = false
may_make (call.Truncate target size) found = false
may_make (call.ReadDir target) found = false
may_make (call.Stat target) found = false
may_make (call.Exec target) found = false
may_make (call.Unlink target) found = false
may_make (call.Rmdir target) found = false
may_make (call.Rename from into) found = false
may_make (call.RenameNoreplace from into) found = false
may_make (call.Exchange from into) found = false
may_make (call.Link from into) found = false
may_make (call.Ruleset rights) found = false
may_make (call.Allow number target rights) found = false
may_make (call.Confine number) found = false
may_make call.Spawn found = false
may_make call.Connect found = false

-- the nodes that the answer reports on
abbrev pub told_inodes : Answer → List ℕ
told_inodes Done = []
told_inodes (Opened number) = []
told_inodes (Status inode kind) = inode ∷ []
told_inodes (Names inode) = inode ∷ []

-- the node that an opening changes: the existing file, or else the directory that gets a file
abbrev pub opened_inode : At → Option ℕ → ℕ
opened_inode at None = at.directory
opened_inode at (Some inode) = inode

-- the nodes that the change touches, except one that it creates
abbrev pub changed_inodes : Change → List ℕ
changed_inodes Nothing = []
changed_inodes (Make at kind) = at.directory ∷ []
changed_inodes (Take at inode) = at.directory ∷ inode ∷ []
changed_inodes (Name at inode) = at.directory ∷ []
changed_inodes (Move old new inode) = old.directory ∷ new.directory ∷ []
changed_inodes (Replace old new inode replaced) = old.directory ∷ new.directory ∷ replaced ∷ []
changed_inodes (Exchange old new first second) = old.directory ∷ new.directory ∷ []
changed_inodes (Resize inode size) = inode ∷ []
changed_inodes (Open opening) = opened_inode opening.at opening.there ∷ []
changed_inodes (Allow rule) = []

-- the change creates a node
abbrev pub makes : Change → Bool
makes Nothing = false
makes (Make at kind) = true
makes (Take at inode) = false
makes (Name at inode) = false
makes (Move old new inode) = false
makes (Replace old new inode replaced) = false
makes (Exchange old new first second) = false
makes (Resize inode size) = false
makes (Open opening) = is_none opening.there
makes (Allow rule) = false

-- these are directories of the paths, or nodes that the call may change or report on
abbrev pub AreNear : Call → Found → List ℕ → Type 0
AreNear call found inodes =
    AllByRecursion (λ i.
    list_any (λ j. j == i) (found.first.directory ∷ found.second.directory ∷ nodes_of call found) ≡ true) inodes

-- the effect touches no other existing node, and creates one only if the call may
pub record IsNear (call : Call) (found : Found) (effect : Effect) : Type 0 where
  pub told : AreNear call found (told_inodes effect.answer)
  pub changed : AreNear call found (changed_inodes effect.change)
  pub made : makes effect.change ≡ true → may_make call found ≡ true
