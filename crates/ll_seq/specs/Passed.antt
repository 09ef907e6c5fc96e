-- A call before and after the layers' decision (policy). Cited by contracts between crates alone. own
use Rattle.std.specs.Prelude.{◌≡◌, ⊤, Bool, true, false, is_some, List, [], ◌++◌, nat_le}
use Rattle.ll_rights.specs.declared.errno.Errno.{Errno}
use Rattle.ll_rights.specs.Map.{len}
use Rattle.ll_path.specs.Path.{Path}
use Rattle.ll_seq.specs.Call.{first_path, second_path}
use Rattle.ll_seq.specs.declared.call.Call.{Call}
use Rattle.ll_seq.specs.declared.call.Call.TheVariants.{Make, Open, Read, Write, Ftruncate, Close, Truncate, ReadDir}
use Rattle.ll_seq.specs.declared.call.Call.TheVariants.{Stat, Exec, Unlink, Rmdir, Rename, RenameNoreplace, Exchange}
use Rattle.ll_seq.specs.declared.call.Call.TheVariants.{Link, Ruleset, Allow, Confine, Spawn, Connect}
use Rattle.ll_seq.specs.declared.client.ClientRecord.{ClientRecord}
use Rattle.ll_seq.specs.Stages.{text_refusals, number_refusals, relation_refusals, walk_refusals}
use Rattle.ll_seq.specs.CallParts.{existence_refusals, kind_refusals, limit_refusals}
use Rattle.ll_seq.specs.State.{State}
use Rattle.ll_seq.specs.Tree.{named}
use Rattle.ll_seq.specs.Found.{Stands}
use Rattle.ll_seq.specs.declared.found.Found.{Found}

-- the call has a path. All others concern only the caller's record or its open files
abbrev pub has_path : Call → Bool
has_path (Make kind target) = true
has_path (Open mode target) = true
has_path (Read fd offset count) = false
has_path (Write fd offset bytes) = false
has_path (Ftruncate fd size) = false
has_path (Close fd) = false
has_path (Truncate target size) = true
has_path (ReadDir target) = true
has_path (Stat target) = true
has_path (Exec target) = true
has_path (Unlink target) = true
has_path (Rmdir target) = true
has_path (Rename old new) = true
has_path (RenameNoreplace old new) = true
has_path (Exchange old new) = true
has_path (Link old new) = true
has_path (Ruleset rights) = false
has_path (Allow number target rights) = true
has_path (Confine number) = false
has_path Spawn = false
has_path Connect = false

-- the refusals for an obstacle on a path, and for what exists there
abbrev pub found_refusals : State → Call → List Errno
found_refusals s call = walk_refusals s call ++ existence_refusals s call (first_path call) (second_path call)

-- the refusals that come before policy
abbrev pub before_policy : State → ClientRecord → Call → List Errno
before_policy s c call =
    text_refusals call
    ++ (number_refusals c call
    ++ (relation_refusals call (first_path call) (second_path call)
    ++ (walk_refusals s call
    ++ existence_refusals s call (first_path call) (second_path call))))

-- the refusals that come after policy
abbrev pub after_policy : State → ClientRecord → Call → List Errno
after_policy s c call =
    kind_refusals s c call (first_path call) (second_path call)
    ++ limit_refusals s c call (first_path call) (second_path call)

abbrev pub IsThere : State → Path → Type 0
IsThere s path = is_some (named s path) ≡ true

-- what must exist for the call exists. at: the call's path, or the old one of two; new: the new one of two
abbrev pub Exist : State → Call → Path → Path → Type 0
Exist s (Make kind target) at new = ⊤
Exist s (Open mode target) at new = ⊤
Exist s (Read fd offset count) at new = ⊤
Exist s (Write fd offset bytes) at new = ⊤
Exist s (Ftruncate fd size) at new = ⊤
Exist s (Close fd) at new = ⊤
Exist s (Truncate target size) at new = IsThere s at
Exist s (ReadDir target) at new = IsThere s at
Exist s (Stat target) at new = IsThere s at
Exist s (Exec target) at new = IsThere s at
Exist s (Unlink target) at new = IsThere s at
Exist s (Rmdir target) at new = IsThere s at
Exist s (Rename from into) at new = IsThere s at
Exist s (RenameNoreplace from into) at new = IsThere s at
Exist s (Exchange from into) at new = IsThere s at × IsThere s new
Exist s (Link from into) at new = IsThere s at
Exist s (Ruleset rights) at new = ⊤
Exist s (Allow number target rights) at new = IsThere s at
Exist s (Confine number) at new = ⊤
Exist s Spawn at new = ⊤
Exist s Connect at new = ⊤

-- nothing before policy refuses the call, so what is found is right
pub record Passed (s : State) (c : ClientRecord) (call : Call) (found : Found) : Type 0 where
  pub first : Stands s (first_path call) found.first
  pub second : Stands s (second_path call) found.second
  pub full : found.is_full ≡ nat_le s.room (len s.nodes)
  pub exist : Exist s call (first_path call) (second_path call)
  pub numbers : number_refusals c call ≡ []
  pub lying : relation_refusals call (first_path call) (second_path call) ≡ []
  pub way : walk_refusals s call ≡ []
  pub existence : existence_refusals s call (first_path call) (second_path call) ≡ []

-- nothing but policy refuses the call
pub record IsFree (s : State) (c : ClientRecord) (call : Call) (found : Found) : Type 0 where
  pub passed : Passed s c call found
  pub kinds : kind_refusals s c call (first_path call) (second_path call) ≡ []
  pub limits : limit_refusals s c call (first_path call) (second_path call) ≡ []
