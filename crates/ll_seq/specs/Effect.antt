-- What an effect's data mean in terms of the definitions, and what holds when a call has that effect. Cited by
-- contracts between crates alone. own
use Rattle.std.specs.Prelude.{◌≡◌, ◌≢◌, ◌<◌, ⊤, ℕ, not, ◌==◌, ◌&&◌, false, [], ◌++◌, length, Option, Some, None}
use Rattle.std.specs.Prelude.{slice_set, if◌then◌else◌}
use Rattle.ll_rights.specs.declared.kind.Kind.TheVariants.{Reg, Dir}
use Rattle.ll_rights.specs.Kind.{is_dir}
use Rattle.ll_rights.specs.Map.{get, insert}
use Rattle.ll_path.specs.Name.{IsName}
use Rattle.ll_path.specs.Path.{Path}
use Rattle.ll_rules.specs.Rules.{rule_refusals, rule_limit, with_rule}
use Rattle.ll_seq.specs.declared.client.ClientRecord.{ClientRecord}
use Rattle.ll_seq.specs.declared.client.Descriptor.{Descriptor}
use Rattle.ll_seq.specs.declared.dentries.Dentry.{Dentry}
use Rattle.ll_seq.specs.declared.reply.Reply.{Reply}
use Rattle.ll_seq.specs.declared.reply.Reply.TheVariants as reply
use Rattle.ll_seq.specs.Effects.{with_node, without_name, with_name, with_moved, let_go, with_size, with_bytes}
use Rattle.ll_seq.specs.Effects.{with_client, status_of, dentry_of}
use Rattle.ll_seq.specs.Reach.{HasName}
use Rattle.ll_seq.specs.Stages.{has_names, has_many_names, is_crowded, no_space, is_too_long, lowest_free, ruleset_at}
use Rattle.ll_seq.specs.State.{State, root, dentry, child, kind_of, names_in}
use Rattle.ll_seq.specs.Tree.{named, kind_or_file}
use Rattle.ll_seq.specs.declared.changes.Answer.{Answer}
use Rattle.ll_seq.specs.declared.changes.Answer.TheVariants.{Done, Opened, Status, Names}
use Rattle.ll_seq.specs.declared.changes.At.{At}
use Rattle.ll_seq.specs.declared.changes.Change.{Change}
use Rattle.ll_seq.specs.declared.changes.Change.TheVariants.{Nothing, Make, Take, Name, Move, Replace, Exchange}
use Rattle.ll_seq.specs.declared.changes.Change.TheVariants.{Resize, Open, Allow}
use Rattle.ll_seq.specs.declared.changes.Opening.{Opening}
use Rattle.ll_seq.specs.declared.changes.Rule.{Rule}

abbrev pub dentry_at : At → Dentry
dentry_at at = dentry at.directory at.name.now

abbrev pub descriptor_of : Opening → ℕ → Descriptor
descriptor_of o inode = record { inode = inode; reads = o.reads; writes = o.writes; kept = o.kept }

-- the caller after it got the descriptor, which refers to this inode
abbrev pub with_descriptor : ClientRecord → Opening → ℕ → ClientRecord
with_descriptor c o inode = record c { descriptors = insert c.descriptors o.number (descriptor_of o inode) }

-- the state after an opening: of a new file, or of this inode
abbrev pub with_opening : State → ℕ → ClientRecord → Opening → Option ℕ → State
with_opening s n c o None = with_client (with_node s Reg (dentry_at o.at)) n (with_descriptor c o s.next)
with_opening s n c o (Some inode) =
    with_client (if o.is_emptied then with_bytes s inode [] else s) n (with_descriptor c o inode)

-- the caller after its ruleset got one more rule
abbrev pub with_rule_of : ClientRecord → Rule → ClientRecord
with_rule_of c rule = record c {
  rulesets = slice_set c.rulesets rule.number (with_rule (ruleset_at c rule.number) rule.inode rule.rights.0);
}

-- the state after the change, which the client with this number and record makes
abbrev pub after : State → ℕ → ClientRecord → Change → State
after s n c Nothing = s
after s n c (Make at kind) = with_node s kind (dentry_at at)
after s n c (Take at inode) = without_name s (dentry_at at) inode
after s n c (Name at inode) = with_name s (dentry_at at) inode
after s n c (Move old new inode) = with_moved s (dentry_at old) (dentry_at new) inode
after s n c (Replace old new inode replaced) = let_go (with_moved s (dentry_at old) (dentry_at new) inode) replaced
after s n c (Exchange old new first second) = with_name (with_name s (dentry_at new) first) (dentry_at old) second
after s n c (Resize inode size) = with_size s inode size
after s n c (Open opening) = with_opening s n c opening opening.there
after s n c (Allow rule) = with_client s n (with_rule_of c rule)

-- the reply, read from the state before the change
abbrev pub told : State → Answer → Reply
told s Done = reply.Done
told s (Opened number) = reply.Opened number
told s (Status inode kind) = reply.Found (status_of s inode kind)
told s (Names inode) = reply.Listed (names_in s inode)

-- ---- What whoever makes the change may rely on

-- the inode is a directory, provided the root is
abbrev pub IsDirectory : State → ℕ → Type 0
IsDirectory s inode = kind_of s root ≡ Some Dir → kind_of s inode ≡ Some Dir

-- the place is that of the path's last name
pub record IsPlace (s : State) (path : Path) (at : At) : Type 0 where
  pub name : IsName at.name.now
  pub directory : IsDirectory s at.directory
  pub dentry : dentry_at at ≡ dentry_of s path
  pub child : child s at.directory at.name.now ≡ named s path

-- the directory doesn't have the name
pub record Lacks (s : State) (at : At) : Type 0 where
  pub name : IsName at.name.now
  pub directory : IsDirectory s at.directory
  pub child : child s at.directory at.name.now ≡ None

-- the directory has the name, with this inode
pub record Holds (s : State) (at : At) (inode : ℕ) : Type 0 where
  pub name : IsName at.name.now
  pub directory : IsDirectory s at.directory
  pub child : child s at.directory at.name.now ≡ Some inode

-- it is not a directory with names in it
abbrev pub IsEmpty : State → ℕ → Type 0
IsEmpty s inode = (is_dir (kind_or_file s inode) && has_names s inode) ≡ false

-- the name is free, and there is room for a new node
pub record HasRoom (s : State) (at : At) : Type 0 where
  pub lacks : Lacks s at
  pub space : no_space s at.directory ≡ []

pub record FitsTake (s : State) (at : At) (inode : ℕ) : Type 0 where
  pub holds : Holds s at inode
  pub empty : IsEmpty s inode

pub record FitsName (s : State) (at : At) (inode : ℕ) : Type 0 where
  pub lacks : Lacks s at
  pub named : HasName s inode
  pub few_names : has_many_names s inode ≡ false
  pub room : is_crowded s at.directory ≡ false

pub record FitsMove (s : State) (from into : At) (inode : ℕ) : Type 0 where
  pub old : Holds s from inode
  pub new : Lacks s into
  pub room : (not (from.directory == into.directory) && is_crowded s into.directory) ≡ false

pub record FitsReplace (s : State) (from into : At) (inode replaced : ℕ) : Type 0 where
  pub old : Holds s from inode
  pub new : Holds s into replaced
  pub differ : inode ≢ replaced
  pub empty : IsEmpty s replaced

-- A rename moves, or replaces a node. It does neither if both names have the same inode
abbrev pub FitsRename : State → At → At → ℕ → Option ℕ → Type 0
FitsRename s from into inode None = FitsMove s from into inode
FitsRename s from into inode (Some replaced) = inode ≢ replaced → FitsReplace s from into inode replaced

pub record FitsExchange (s : State) (from into : At) (first second : ℕ) : Type 0 where
  pub old : Holds s from first
  pub new : Holds s into second
  pub differ : first ≢ second

pub record FitsResize (s : State) (inode size : ℕ) : Type 0 where
  pub named : HasName s inode
  pub file : is_dir (kind_or_file s inode) ≡ false
  pub short : is_too_long size ≡ false

-- the file can be created, or exists
abbrev pub CanOpen : State → Opening → Option ℕ → Type 0
CanOpen s o None = HasRoom s o.at
CanOpen s o (Some inode) = HasName s inode

pub record FitsOpening (s : State) (c : ClientRecord) (o : Opening) : Type 0 where
  pub lowest : lowest_free c.descriptors ≡ Some o.number
  pub free : get c.descriptors o.number ≡ None
  pub file : CanOpen s o o.there

pub record FitsRule (s : State) (c : ClientRecord) (rule : Rule) : Type 0 where
  pub number : rule.number < length c.rulesets
  pub named : HasName s rule.inode
  pub kind : rule.kind ≡ kind_or_file s rule.inode
  pub free : rule_refusals (ruleset_at c rule.number) rule.kind rule.rights.0
      ++ rule_limit (ruleset_at c rule.number) rule.inode ≡ []

-- the change can be made: its names are valid and in the directories given, and there is room for what it adds
abbrev pub Fits : State → ClientRecord → Change → Type 0
Fits s c Nothing = ⊤
Fits s c (Make at kind) = HasRoom s at
Fits s c (Take at inode) = FitsTake s at inode
Fits s c (Name at inode) = FitsName s at inode
Fits s c (Move old new inode) = FitsMove s old new inode
Fits s c (Replace old new inode replaced) = FitsReplace s old new inode replaced
Fits s c (Exchange old new first second) = FitsExchange s old new first second
Fits s c (Resize inode size) = FitsResize s inode size
Fits s c (Open opening) = FitsOpening s c opening
Fits s c (Allow rule) = FitsRule s c rule
