-- Which replies a call may have. own
use Rattle.std.specs.Prelude.{◌≡◌, ◌≤◌, Bool, true, false, ⊤}
use Rattle.ll_rights.specs.Errno.{errno_number}
use Rattle.ll_seq.specs.declared.call.Call.{Call}
use Rattle.ll_seq.specs.declared.call.Call.TheVariants.{Make, Open, Read, Write, Ftruncate, Close, Truncate, ReadDir}
use Rattle.ll_seq.specs.declared.call.Call.TheVariants.{Stat, Exec, Unlink, Rmdir, Rename, RenameNoreplace, Exchange}
use Rattle.ll_seq.specs.declared.call.Call.TheVariants.{Link, Ruleset, Allow, Confine, Spawn, Connect}
use Rattle.ll_seq.specs.declared.reply.Reply.{Reply}
use Rattle.ll_seq.specs.declared.reply.Reply.TheVariants as replies

-- ---- The kinds of success

abbrev pub is_done : Reply → Bool
is_done replies.Done = true
is_done other = false

abbrev pub is_opened : Reply → Bool
is_opened (replies.Opened number) = true
is_opened other = false

abbrev pub is_bytes : Reply → Bool
is_bytes (replies.Bytes bytes) = true
is_bytes other = false

abbrev pub is_wrote : Reply → Bool
is_wrote (replies.Wrote count) = true
is_wrote other = false

abbrev pub is_listed : Reply → Bool
is_listed (replies.Listed names) = true
is_listed other = false

abbrev pub is_found : Reply → Bool
is_found (replies.Found status) = true
is_found other = false

abbrev pub is_created : Reply → Bool
is_created (replies.Created number) = true
is_created other = false

abbrev pub is_spawned : Reply → Bool
is_spawned (replies.Spawned number) = true
is_spawned other = false

-- the reply to a call that succeeds
abbrev pub success : Call → Reply → Bool
success (Make kind target) = is_done
success (Open mode target) = is_opened
success (Read fd offset count) = is_bytes
success (Write fd offset bytes) = is_wrote
success (Ftruncate fd size) = is_done
success (Close fd) = is_done
success (Truncate target size) = is_done
success (ReadDir target) = is_listed
success (Stat target) = is_found
success (Exec target) = is_done
success (Unlink target) = is_done
success (Rmdir target) = is_done
success (Rename from into) = is_done
success (RenameNoreplace from into) = is_done
success (Exchange from into) = is_done
success (Link from into) = is_done
success (Ruleset rights) = is_created
success (Allow number target rights) = is_done
success (Confine number) = is_done
success Spawn = is_spawned
success Connect = is_done

-- Or it is denied, or refused. EACCES and EXDEV are given only by denials; no entry has HistoryFull, NoMemory, BadLine
-- or Stale
abbrev pub Fits : (Reply → Bool) → Reply → Type 0
Fits succeeds (replies.Refused errno) = (3 ≤ errno_number errno) × (errno_number errno ≤ 20)
Fits succeeds (replies.Denied denial) = ⊤
Fits succeeds told = succeeds told ≡ true
