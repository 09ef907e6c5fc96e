-- The only spelling of each command and of each reply. own
use Rattle.std.specs.Prelude.{◌≡◌, ⊤, ℕ, ◌^◌, ◌≤◌, ◌<◌, ◌==◌, Bool, true, false, List, [], ◌∷◌, ◌++◌, length, codes}
use Rattle.std.specs.Prelude.{decimal, if◌then◌else◌}
use Rattle.std.specs.List.{join_with_byte}
use Rattle.hex.specs.Hex.{encode_lower}
use Rattle.ll_rights.specs.Access.{access_text}
use Rattle.ll_rights.specs.Errno.{errno_number, errno_text}
use Rattle.ll_rights.specs.Kind.{kind_text}
use Rattle.ll_rights.specs.Right.{right_text}
use Rattle.ll_rights.specs.declared.limits.TheConstants.{TREE_CLIENTS}
use Rattle.ll_path.specs.Word.{IsWord}
use Rattle.ll_path.specs.Target.{IsTarget, target_text}
use Rattle.ll_path.specs.declared.target.Target.{Target}
use Rattle.ll_decide.specs.Denial.{cause_errno, place_text}
use Rattle.ll_seq.specs.declared.call.AccessMode.{AccessMode}
use Rattle.ll_seq.specs.declared.call.AccessMode.TheVariants as ways
use Rattle.ll_seq.specs.declared.call.Creation.{Creation}
use Rattle.ll_seq.specs.declared.call.Creation.TheVariants.{Never, IfMissing, Exclusive}
use Rattle.ll_seq.specs.declared.call.Mode.{Mode}
use Rattle.ll_seq.specs.declared.call.Call.{Call}
use Rattle.ll_seq.specs.declared.call.Call.TheVariants.{Make, Open, Read, Write, Ftruncate, Close, Truncate, ReadDir}
use Rattle.ll_seq.specs.declared.call.Call.TheVariants.{Stat, Exec, Unlink, Rmdir, Rename, RenameNoreplace, Exchange}
use Rattle.ll_seq.specs.declared.call.Call.TheVariants.{Link, Ruleset, Allow, Confine, Spawn, Connect}
use Rattle.ll_seq.specs.Listed.{IsData, AreListed}
use Rattle.ll_seq.specs.declared.reply.Reply.{Reply}
use Rattle.ll_seq.specs.declared.reply.Reply.TheVariants.{Done, Opened, Bytes, Wrote, Listed, Found, Created, Spawned}
use Rattle.ll_seq.specs.declared.reply.Reply.TheVariants.{Refused, Denied}
use Rattle.ll_wire.specs.declared.read.TheConstants.{LINE_LIMIT}

-- a line: tokens with one space (32) between any two, and a line feed (10)
abbrev pub line_of : List (List ℕ) → List ℕ
line_of tokens = join_with_byte 32 tokens ++ 10 ∷ []

abbrev pub IsU64 : ℕ → Type 0
IsU64 n = n < 2 ^ 64

abbrev pub way_text : AccessMode → List ℕ
way_text ways.Read = codes "r"
way_text ways.Write = codes "w"
way_text ways.ReadWrite = codes "rw"

abbrev pub truncate_text : Bool → List ℕ
truncate_text truncate = if truncate then codes "t" else []

abbrev pub creation_text : Creation → List ℕ
creation_text Never = []
creation_text IfMissing = codes "c"
creation_text Exclusive = codes "cx"

-- t empties the file, c creates a missing one, and x after it fails if there is one
abbrev pub mode_text : Mode → List ℕ
mode_text mode = way_text mode.access ++ truncate_text mode.truncate ++ creation_text mode.creation

-- two hexadecimal digits for each byte, in lower case. A hyphen means no bytes
abbrev pub data_text : List ℕ → List ℕ
data_text [] = codes "-"
data_text (b ∷ bytes) = encode_lower (b ∷ bytes)

abbrev pub SpellsTarget : List ℕ → Target → Type 0
SpellsTarget word target = IsWord word × IsTarget word target

-- the target is what its own text spells
abbrev pub IsSpelled : Target → Type 0
IsSpelled target = SpellsTarget (target_text target) target

-- when a call has a spelling; whether reading it takes memory, because it has a word or bytes; its tokens
abbrev pub spelling : Call → Type 0 × Bool × List (List ℕ)
spelling (Make kind target) = (IsSpelled target, true, codes "make" ∷ kind_text kind ∷ target_text target ∷ [])
spelling (Open mode target) = (IsSpelled target, true, codes "open" ∷ mode_text mode ∷ target_text target ∷ [])
spelling (Read fd offset count) =
    (IsU64 fd × IsU64 offset × IsU64 count, false, codes "read" ∷ decimal fd ∷ decimal offset ∷ decimal count ∷ [])
spelling (Write fd offset bytes) =
    (IsU64 fd × IsU64 offset × IsData bytes, true, codes "write" ∷ decimal fd ∷ decimal offset ∷ data_text bytes ∷ [])
spelling (Ftruncate fd size) = (IsU64 fd × IsU64 size, false, codes "ftruncate" ∷ decimal fd ∷ decimal size ∷ [])
spelling (Close fd) = (IsU64 fd, false, codes "close" ∷ decimal fd ∷ [])
spelling (Truncate target size) =
    (IsSpelled target × IsU64 size, true, codes "truncate" ∷ target_text target ∷ decimal size ∷ [])
spelling (ReadDir target) = (IsSpelled target, true, codes "list" ∷ target_text target ∷ [])
spelling (Stat target) = (IsSpelled target, true, codes "stat" ∷ target_text target ∷ [])
spelling (Exec target) = (IsSpelled target, true, codes "exec" ∷ target_text target ∷ [])
spelling (Unlink target) = (IsSpelled target, true, codes "unlink" ∷ target_text target ∷ [])
spelling (Rmdir target) = (IsSpelled target, true, codes "rmdir" ∷ target_text target ∷ [])
spelling (Rename old new) =
    (IsSpelled old × IsSpelled new, true, codes "rename" ∷ target_text old ∷ target_text new ∷ [])
spelling (RenameNoreplace old new) =
    (IsSpelled old × IsSpelled new, true, codes "rename_noreplace" ∷ target_text old ∷ target_text new ∷ [])
spelling (Exchange old new) =
    (IsSpelled old × IsSpelled new, true, codes "exchange" ∷ target_text old ∷ target_text new ∷ [])
spelling (Link old new) = (IsSpelled old × IsSpelled new, true, codes "link" ∷ target_text old ∷ target_text new ∷ [])
spelling (Ruleset rights) = (IsU64 rights.0, false, codes "ruleset" ∷ access_text rights.0 ∷ [])
spelling (Allow number target rights) = (
  IsU64 number × IsSpelled target × IsU64 rights.0,
  true,
  codes "allow" ∷ decimal number ∷ target_text target ∷ access_text rights.0 ∷ [],
)
spelling (Confine number) = (IsU64 number, false, codes "confine" ∷ decimal number ∷ [])
spelling Spawn = (⊤, false, codes "spawn" ∷ [])
spelling Connect = (⊥, false, codes "connect" ∷ [])

abbrev pub IsCall : Call → Type 0
IsCall call = (spelling call).0

abbrev pub call_tokens : Call → List (List ℕ)
call_tokens call = (spelling call).2

-- a session numbers its clients from 1
abbrev pub IsClient : ℕ → Type 0
IsClient client = (1 ≤ client) × (client ≤ TREE_CLIENTS)

-- `@` (64) and the client's number. The first client isn't named
abbrev pub client_tokens : ℕ → List (List ℕ)
client_tokens client = if client == 1 then [] else (64 ∷ decimal client) ∷ []

-- the line spells the call, made by this client
pub record SpellsCommand (line : List ℕ) (client : ℕ) (call : Call) : Type 0 where
  pub is_client : IsClient client
  pub is_call : IsCall call
  pub short : length line ≤ LINE_LIMIT
  pub text : line ≡ line_of (client_tokens client ++ call_tokens call)

-- When a reply has a spelling, and its tokens. A refusal by policy is a denial
abbrev pub told : Reply → Type 0 × List (List ℕ)
told Done = (⊤, codes "ok" ∷ [])
told (Opened number) = (IsU64 number, codes "fd" ∷ decimal number ∷ [])
told (Bytes bytes) = (IsData bytes, codes "data" ∷ data_text bytes ∷ [])
told (Wrote count) = (IsU64 count, codes "wrote" ∷ decimal count ∷ [])
told (Listed names) = (AreListed names, codes "names" ∷ names)
told (Found s) = (
  IsU64 s.inode × IsU64 s.size × IsU64 s.links,
  codes "stat" ∷ decimal s.inode ∷ kind_text s.kind ∷ decimal s.size ∷ decimal s.links ∷ [],
)
told (Created number) = (IsU64 number, codes "ruleset" ∷ decimal number ∷ [])
told (Spawned number) = (IsU64 number, codes "client" ∷ decimal number ∷ [])
told (Refused errno) = (
  (3 ≤ errno_number errno) × (errno_number errno ≤ 23),
  codes "refused" ∷ decimal (errno_number errno) ∷ errno_text errno ∷ [],
)
told (Denied d) = (
  IsU64 d.layer × (d.right < 15),
  codes "denied" ∷ errno_text (cause_errno d.cause) ∷ codes "layer" ∷ decimal d.layer ∷ right_text d.right
      ∷ place_text d.place ∷ [],
)

abbrev pub IsReply : Reply → Type 0
IsReply reply = (told reply).0

abbrev pub reply_tokens : Reply → List (List ℕ)
reply_tokens reply = (told reply).1

abbrev pub reply_line : Reply → List ℕ
reply_line reply = line_of (reply_tokens reply)

abbrev pub SpellsReply : List ℕ → Reply → Type 0
SpellsReply line reply = IsReply reply × (line ≡ reply_line reply)
