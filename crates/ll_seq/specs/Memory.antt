-- Which calls and replies may need memory, and when a call may be answered NoMemory. own
use Rattle.std.specs.Prelude.{◌≡◌, ℕ, Bool, true, false, []}
use Rattle.ll_seq.specs.declared.call.Call.{Call}
use Rattle.ll_seq.specs.declared.call.Call.TheVariants.{Make, Open, Read, Write, Ftruncate, Close, Truncate, ReadDir}
use Rattle.ll_seq.specs.declared.call.Call.TheVariants.{Stat, Exec, Unlink, Rmdir, Rename, RenameNoreplace, Exchange}
use Rattle.ll_seq.specs.declared.call.Call.TheVariants.{Link, Ruleset, Allow, Confine, Spawn, Connect}
use Rattle.ll_seq.specs.declared.reply.Reply.{Reply}
use Rattle.ll_seq.specs.declared.reply.Reply.TheVariants.{Bytes, Listed}
use Rattle.ll_seq.specs.State.{State}
use Rattle.ll_seq.specs.Step.{client_of, refusals}

abbrev pub takes_memory : Call → Bool
takes_memory (Make kind target) = true
takes_memory (Open mode target) = true
takes_memory (Read fd offset count) = true
takes_memory (Write fd offset bytes) = true
takes_memory (Ftruncate fd size) = true
takes_memory (Close fd) = false
takes_memory (Truncate target size) = true
takes_memory (ReadDir target) = true
takes_memory (Stat target) = false
takes_memory (Exec target) = false
takes_memory (Unlink target) = false
takes_memory (Rmdir target) = false
takes_memory (Rename old new) = true
takes_memory (RenameNoreplace old new) = true
takes_memory (Exchange old new) = false
takes_memory (Link old new) = true
takes_memory (Ruleset rights) = true
takes_memory (Allow number target rights) = true
takes_memory (Confine number) = true
takes_memory Spawn = true
takes_memory Connect = true

-- The client's call may find no memory: it needs some, and nothing refuses it
pub record MayStarve (s : State) (client : ℕ) (call : Call) : Type 0 where
  pub takes : takes_memory call ≡ true
  pub passes : refusals s (client_of s client) call ≡ []

-- the reply has bytes or names, so that a copy needs memory
abbrev pub holds_memory : Reply → Bool
holds_memory (Bytes bytes) = true
holds_memory (Listed names) = true
holds_memory _ = false
