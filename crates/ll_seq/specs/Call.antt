-- The parts of calls. open(2), "File access modes", O_CREAT and O_EXCL
use Rattle.std.specs.Prelude.{ℕ, Bool, true, false, List, [], ◌∷◌, Option, Some, None}
use Rattle.ll_path.specs.Path.{Path}
use Rattle.ll_path.specs.declared.target.Target.{Target}
use Rattle.ll_path.specs.declared.target.Target.TheVariants.{Good, Bad}
use Rattle.ll_seq.specs.declared.call.Creation.{Creation}
use Rattle.ll_seq.specs.declared.call.Creation.TheVariants.{Never, Exclusive}
use Rattle.ll_seq.specs.declared.call.AccessMode.{AccessMode}
use Rattle.ll_seq.specs.declared.call.AccessMode.TheVariants as way
use Rattle.ll_seq.specs.declared.call.Call.{Call}
use Rattle.ll_seq.specs.declared.call.Call.TheVariants.{Make, Open, Read, Write, Ftruncate, Close, Truncate, ReadDir}
use Rattle.ll_seq.specs.declared.call.Call.TheVariants.{Stat, Exec, Unlink, Rmdir, Rename, RenameNoreplace, Exchange}
use Rattle.ll_seq.specs.declared.call.Call.TheVariants.{Link, Ruleset, Allow, Confine, Spawn, Connect}

abbrev pub reads : AccessMode → Bool
reads way.Write = false
reads _ = true

abbrev pub writes : AccessMode → Bool
writes way.Read = false
writes _ = true

abbrev pub creates : Creation → Bool
creates Never = false
creates _ = true

abbrev pub is_exclusive : Creation → Bool
is_exclusive Exclusive = true
is_exclusive _ = false

abbrev pub target_path : Target → Option Path
target_path (Good path) = Some path
target_path (Bad word) = None

-- the path of an argument. For a word that is no path, which is refused before this matters, the root
abbrev pub path_of : Target → Path
path_of (Good path) = path
path_of (Bad word) = []

-- a call's path arguments
abbrev pub targets : Call → List Target
targets (Make kind target) = target ∷ []
targets (Open mode target) = target ∷ []
targets (Read fd offset count) = []
targets (Write fd offset bytes) = []
targets (Ftruncate fd size) = []
targets (Close fd) = []
targets (Truncate target size) = target ∷ []
targets (ReadDir target) = target ∷ []
targets (Stat target) = target ∷ []
targets (Exec target) = target ∷ []
targets (Unlink target) = target ∷ []
targets (Rmdir target) = target ∷ []
targets (Rename old new) = old ∷ new ∷ []
targets (RenameNoreplace old new) = old ∷ new ∷ []
targets (Exchange old new) = old ∷ new ∷ []
targets (Link old new) = old ∷ new ∷ []
targets (Ruleset rights) = []
targets (Allow number target rights) = target ∷ []
targets (Confine number) = []
targets Spawn = []
targets Connect = []

abbrev pub first_of : List Target → Path
first_of [] = []
first_of (target ∷ more) = path_of target

abbrev pub second_of : List Target → Path
second_of [] = []
second_of (target ∷ []) = path_of target
second_of (old ∷ (new ∷ more)) = path_of new

-- The old path and the new one, if a call has two. Both are the only path, if it has one, and the root, if it has none
abbrev pub first_path : Call → Path
first_path call = first_of (targets call)

abbrev pub second_path : Call → Path
second_path call = second_of (targets call)

abbrev pub has_any : {A : Type 0} → List A → Bool
has_any [] = false
has_any (x ∷ xs) = true

-- the descriptor that the call is made on, and the paths whose nodes it moves
abbrev pub concerns : Call → Option ℕ × List Path
concerns (Make kind target) = (None, [])
concerns (Open mode target) = (None, [])
concerns (Read fd offset count) = (Some fd, [])
concerns (Write fd offset bytes) = (Some fd, [])
concerns (Ftruncate fd size) = (Some fd, [])
concerns (Close fd) = (Some fd, [])
concerns (Truncate target size) = (None, [])
concerns (ReadDir target) = (None, [])
concerns (Stat target) = (None, [])
concerns (Exec target) = (None, [])
concerns (Unlink target) = (None, [])
concerns (Rmdir target) = (None, [])
concerns (Rename from into) = (None, path_of from ∷ [])
concerns (RenameNoreplace from into) = (None, path_of from ∷ [])
concerns (Exchange from into) = (None, path_of from ∷ path_of into ∷ [])
concerns (Link from into) = (None, [])
concerns (Ruleset rights) = (None, [])
concerns (Allow number target rights) = (None, [])
concerns (Confine number) = (None, [])
concerns Spawn = (None, [])
concerns Connect = (None, [])

abbrev pub descriptor_of : Call → Option ℕ
descriptor_of call = (concerns call).0

abbrev pub moving : Call → List Path
moving call = (concerns call).1

-- Only one of the calls that may move directories is under way at a time: it holds the move gate from its beginning
abbrev pub takes_gate : Call → Bool
takes_gate call = has_any (moving call)
