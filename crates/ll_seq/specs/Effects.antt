-- The reply and the effect of a call that isn't refused. own, except for the manuals that are named
use Rattle.std.specs.Prelude.{ℕ, ◌+◌, ◌-◌, Bool, not, ◌||◌, Option, Some, None, List, [], ◌∷◌, ◌++◌, length, take, drop}
use Rattle.std.specs.Prelude.{replicate, is_none, ◌==◌, unwrap_or, slice_set, if◌then◌else◌}
use Rattle.std.specs.Option.{option_map_or}
use Rattle.ll_rights.specs.declared.kind.Kind.{Kind}
use Rattle.ll_rights.specs.declared.kind.Kind.TheVariants.{Reg}
use Rattle.ll_rights.specs.Kind.{is_dir}
use Rattle.ll_rights.specs.Map.{empty, get, insert, remove}
use Rattle.ll_path.specs.Path.{Path, last_name}
use Rattle.ll_rules.specs.Rules.{new_ruleset, with_rule}
use Rattle.ll_seq.specs.declared.call.Mode.{Mode}
use Rattle.ll_seq.specs.declared.call.Call.{Call}
use Rattle.ll_seq.specs.declared.call.Call.TheVariants.{Make, Open, Read, Write, Ftruncate, Close, Truncate, ReadDir}
use Rattle.ll_seq.specs.declared.call.Call.TheVariants.{Stat, Exec, Unlink, Rmdir, Rename, RenameNoreplace, Exchange}
use Rattle.ll_seq.specs.declared.call.Call.TheVariants.{Link, Ruleset, Allow, Confine, Spawn, Connect}
use Rattle.ll_seq.specs.declared.reply.Reply.{Reply}
use Rattle.ll_seq.specs.declared.reply.Reply.TheVariants.{Done, Opened, Bytes, Wrote, Listed, Found, Created, Spawned}
use Rattle.ll_seq.specs.declared.client.ClientRecord.{ClientRecord}
use Rattle.ll_seq.specs.declared.client.Descriptor.{Descriptor}
use Rattle.ll_seq.specs.declared.dentries.Dentry.{Dentry}
use Rattle.ll_seq.specs.declared.node.Node.{Node}
use Rattle.ll_seq.specs.declared.rules.Rules.{Rules}
use Rattle.ll_seq.specs.declared.reply.Status.{Status}
use Rattle.ll_seq.specs.Call.{reads, writes}
use Rattle.ll_seq.specs.State.{State, root, dentry, empty_node, new_client, bytes_of, names_in, name_count, is_open}
use Rattle.ll_seq.specs.Tree.{named, inode_of, directory_of, kind_at}
use Rattle.ll_seq.specs.Asked.{kept_at}
use Rattle.ll_seq.specs.Stages.{lowest_free, ruleset_at}

abbrev pub with_client : State → ℕ → ClientRecord → State
with_client s number c = record s { clients = insert s.clients number c }

-- a node lives while it is the root, has a name or is open. unlink(2)
abbrev pub lives : State → ℕ → Bool
lives s inode = (inode == root) || not (name_count s inode == 0) || is_open s inode

abbrev pub let_go : State → ℕ → State
let_go s inode = if lives s inode then s else record s { nodes = remove s.nodes inode }

-- adds a name of the inode. link(2)
abbrev pub with_name : State → Dentry → ℕ → State
with_name s at inode = record s { entries = insert s.entries at inode }

-- cut, or extended with zeros, to this length. truncate(2), ftruncate(2)
abbrev pub resized : List ℕ → ℕ → List ℕ
resized bytes size = take size (bytes ++ replicate (size - length bytes) 0)

-- bytes written at the offset. A gap before them is filled with zeros. write(2), lseek(2)
abbrev pub overwritten : List ℕ → ℕ → List ℕ → List ℕ
overwritten old offset bytes = resized old offset ++ bytes ++ drop (offset + length bytes) old

abbrev pub inode_at : ClientRecord → ℕ → ℕ
inode_at c number = option_map_or (λ (d : Descriptor). d.inode) (get c.descriptors number) 0

-- what a spawned client inherits. landlock.rst, "Inheritance"; fork(2)
abbrev pub child_of : Rules → ClientRecord → ClientRecord
child_of rules c =
    record { domain = c.domain; rulesets = []; descriptors = if rules.copies then c.descriptors else empty }

module _ (s : State) where
  abbrev pub dentry_of : Path → Dentry
  dentry_of path = dentry (directory_of s path) (last_name path)

  -- creates a node with a name. mknod(2)
  abbrev pub with_node : Kind → Dentry → State
  with_node kind at =
      record s {
        entries = insert s.entries at s.next;
        nodes = insert s.nodes s.next (empty_node kind);
        next = s.next + 1;
      }

  abbrev pub without_name : Dentry → ℕ → State
  without_name at inode = let_go (record s { entries = remove s.entries at }) inode

  abbrev pub with_moved : Dentry → Dentry → ℕ → State
  with_moved old new inode = with_name (record s { entries = remove s.entries old }) new inode

  -- The node that had the new name loses it. If both names have the same inode, both stay. rename(2)
  abbrev pub renamed : Dentry → Dentry → ℕ → Option ℕ → State
  renamed old new inode None = with_moved old new inode
  renamed old new inode (Some replaced) = if inode == replaced then s else let_go (with_moved old new inode) replaced

  abbrev pub with_bytes : ℕ → List ℕ → State
  with_bytes inode bytes =
      option_map_or (λ (n : Node). record s { nodes = insert s.nodes inode (record n { bytes = bytes }) })
      (get s.nodes inode) s

  abbrev pub with_size : ℕ → ℕ → State
  with_size inode size = with_bytes inode (resized (bytes_of s inode) size)

  -- writing no bytes changes nothing. write(2)
  abbrev pub written : ℕ → ℕ → List ℕ → State
  written inode offset bytes =
      if length bytes == 0 then s else with_bytes inode (overwritten (bytes_of s inode) offset bytes)

  -- what stat returns. A directory has one link. own, after stat(2)
  abbrev pub status_of : ℕ → Kind → Status
  status_of inode kind = record {
    inode = inode;
    kind = kind;
    size = length (bytes_of s inode);
    links = if is_dir kind then 1 else name_count s inode;
  }

  abbrev pub with_opened : ClientRecord → Mode → Path → ℕ → ClientRecord
  with_opened c mode path inode = record c {
    descriptors = insert c.descriptors (unwrap_or (lowest_free c.descriptors) 0) (record
        { inode = inode; reads = reads mode.access; writes = writes mode.access; kept = kept_at s c.domain path });
  }

  -- the file after an opening, which may truncate it. open(2), O_TRUNC
  abbrev pub emptied : Mode → ℕ → State
  emptied mode inode = if mode.truncate then with_bytes inode [] else s

  module _ (number : ℕ) (c : ClientRecord) (at new : Path) (fresh : ℕ) where
    abbrev pub here : ℕ
    here = inode_of s at

    abbrev pub with_own : ClientRecord → State
    with_own r = with_client s number r

    -- the reply and the next state. number: the caller's. fresh: a spawned client's number
    abbrev pub effect : Call → Reply × State
    effect (Make kind target) = (Done, with_node kind (dentry_of at))
    -- open(2), O_CREAT
    effect (Open mode target) = (
      Opened (unwrap_or (lowest_free c.descriptors) 0),
      if is_none (named s at)
          then with_client (with_node Reg (dentry_of at)) number (with_opened c mode at s.next)
          else with_client (emptied mode here) number (with_opened c mode at here),
    )
    effect (Read fd offset count) = (Bytes (take count (drop offset (bytes_of s (inode_at c fd)))), s)
    effect (Write fd offset bytes) = (Wrote (length bytes), written (inode_at c fd) offset bytes)
    effect (Ftruncate fd size) = (Done, with_size (inode_at c fd) size)
    effect (Close fd) = (Done, let_go (with_own (record c { descriptors = remove c.descriptors fd })) (inode_at c fd))
    effect (Truncate target size) = (Done, with_size here size)
    effect (ReadDir target) = (Listed (names_in s here), s)
    effect (Stat target) = (Found (status_of here (kind_at s at)), s)
    effect (Exec target) = (Done, s)
    effect (Unlink target) = (Done, without_name (dentry_of at) here)
    effect (Rmdir target) = (Done, without_name (dentry_of at) here)
    effect (Rename from into) = (Done, renamed (dentry_of at) (dentry_of new) here (named s new))
    effect (RenameNoreplace from into) = (Done, with_moved (dentry_of at) (dentry_of new) here)
    -- renameat2(2), RENAME_EXCHANGE
    effect (Exchange from into) =
        (Done, with_name (with_name s (dentry_of new) here) (dentry_of at) (inode_of s new))
    effect (Link from into) = (Done, with_name s (dentry_of new) here)
    effect (Ruleset rights) =
        (Created (length c.rulesets), with_own (record c { rulesets = c.rulesets ++ new_ruleset rights.0 ∷ [] }))
    effect (Allow rs target rights) =
        (Done, with_own (record c { rulesets = slice_set c.rulesets rs (with_rule (ruleset_at c rs) here rights.0) }))
    effect (Confine rs) = (Done, with_own (record c { domain = c.domain ++ ruleset_at c rs ∷ [] }))
    effect Spawn = (Spawned fresh, with_client s fresh (child_of s.rules c))
    effect Connect = (Done, with_own new_client)
