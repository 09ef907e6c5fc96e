-- What is behind a node's lock. own
use Rattle.std.specs.Prelude.{ℕ, List, [], length, Option, None, if◌then◌else◌, ◌==◌}
use Rattle.std.specs.Option.{option_map_or}
use Rattle.std.specs.Ordering.{nat_cmp}
use Rattle.std.specs.Cmp.Lexicographic.{slice_cmp}
use Rattle.ll_rights.specs.declared.kind.Kind.{Kind}
use Rattle.ll_rights.specs.Kind.{is_dir}
use Rattle.ll_rights.specs.Map.{Map, empty, get, insert, remove, len}
use Rattle.ll_seq.specs.Effects.{overwritten}

-- from names, sorted by their bytes, to inodes
abbrev pub NameMap : Type 0
NameMap = Map (slice_cmp nat_cmp) ℕ

-- A node: its kind, its names (if it is a directory) or its bytes. mark: the client whose walk is here
pub record Slot : Type 0 where
  pub kind : Kind
  pub names : NameMap
  pub bytes : List ℕ
  pub mark : Option ℕ

abbrev pub new_slot : Kind → Slot
new_slot kind = record { kind = kind; names = empty; bytes = []; mark = None }

-- the number of a directory's names, or of another node's bytes
abbrev pub len_of : Slot → ℕ
len_of s = if is_dir s.kind then len s.names else length s.bytes

-- the names after an existing name got another inode
abbrev pub replaced : NameMap → List ℕ → ℕ → NameMap
replaced names name inode = option_map_or (λ (old : ℕ). insert names name inode) (get names name) names

-- the names after the inode of the old name got the new name instead. rename(2)
abbrev pub renamed : NameMap → List ℕ → List ℕ → NameMap
renamed names old new = option_map_or (λ (inode : ℕ). insert (remove names old) new inode) (get names old) names

-- the bytes after a write at the offset. Writing no bytes changes nothing. write(2)
abbrev pub written : List ℕ → ℕ → List ℕ → List ℕ
written old offset bytes = if length bytes == 0 then old else overwritten old offset bytes
