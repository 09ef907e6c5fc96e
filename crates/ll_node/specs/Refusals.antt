-- When a change of a node's names or bytes is refused. The first reason that holds is reported. Their order and the
-- limits are own
use Rattle.std.specs.Prelude.{ℕ, ◌+◌, not, ◌&&◌, List, ◌++◌, length, nat_lt, nat_le}
use Rattle.ll_rights.specs.declared.errno.Errno.{Errno}
use Rattle.ll_rights.specs.declared.errno.Errno.TheVariants.{ENOENT, EEXIST, ENOSPC, EFBIG}
use Rattle.ll_rights.specs.Errno.{refuse}
use Rattle.ll_rights.specs.Map.{has, len}
use Rattle.ll_seq.specs.Stages.{is_too_long}
use Rattle.ll_node.specs.Slot.{NameMap}

-- a new name: it exists already, or the directory has 1,024 names. mknod(2), link(2)
abbrev pub insert_refusals : NameMap → List ℕ → List Errno
insert_refusals names name = refuse (has names name) EEXIST ++ refuse (nat_le 1024 (len names)) ENOSPC

-- a name that must exist. unlink(2)
abbrev pub missing : NameMap → List ℕ → List Errno
missing names name = refuse (not (has names name)) ENOENT

-- a new name for an entry of the same directory: it must be free. The number of entries stays. rename(2)
abbrev pub rename_refusals : NameMap → List ℕ → List ℕ → List Errno
rename_refusals names old new = missing names old ++ refuse (has names new) EEXIST

-- bytes that end beyond the longest file. No bytes are never refused. write(2)
abbrev pub write_refusals : ℕ → List ℕ → List Errno
write_refusals offset bytes = refuse (nat_lt 0 (length bytes) && is_too_long (offset + length bytes)) EFBIG

-- a length beyond the longest file. truncate(2)
abbrev pub len_refusals : ℕ → List Errno
len_refusals size = refuse (is_too_long size) EFBIG
