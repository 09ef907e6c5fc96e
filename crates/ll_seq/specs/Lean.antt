-- Effects that take no memory. Cited by contracts between crates alone. own
use Rattle.std.specs.Prelude.{Bool, true, false, not, ◌&&◌}
use Rattle.ll_seq.specs.declared.call.Call.{Call}
use Rattle.ll_seq.specs.Memory.{takes_memory}
use Rattle.ll_seq.specs.declared.changes.Answer.{Answer}
use Rattle.ll_seq.specs.declared.changes.Answer.TheVariants.{Done, Opened, Status, Names}
use Rattle.ll_seq.specs.declared.changes.Change.{Change}
use Rattle.ll_seq.specs.declared.changes.Change.TheVariants.{Nothing, Make, Take, Name, Move, Replace, Exchange}
use Rattle.ll_seq.specs.declared.changes.Change.TheVariants.{Resize, Open, Allow}
use Rattle.ll_seq.specs.declared.changes.Effect.{Effect}
use Rattle.ll_seq.specs.Passed.{has_path}

-- the change adds nothing: no node, name, byte, descriptor or rule
abbrev pub adds_nothing : Change → Bool
adds_nothing Nothing = true
adds_nothing (Make at kind) = false
adds_nothing (Take at inode) = true
adds_nothing (Name at inode) = false
adds_nothing (Move old new inode) = false
adds_nothing (Replace old new inode replaced) = true
adds_nothing (Exchange old new first second) = true
adds_nothing (Resize inode size) = false
adds_nothing (Open opening) = false
adds_nothing (Allow rule) = false

-- the answer has a fixed size
abbrev pub is_short : Answer → Bool
is_short Done = true
is_short (Opened number) = true
is_short (Status inode kind) = true
is_short (Names inode) = false

abbrev pub is_lean : Effect → Bool
is_lean effect = is_short effect.answer && adds_nothing effect.change

-- the calls with paths that add nothing and have an answer of fixed size
abbrev pub spares_memory : Call → Bool
spares_memory call = has_path call && not (takes_memory call)
