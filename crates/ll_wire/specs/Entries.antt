-- The only spelling of each entry of a history, and of its header, the line before them. own
use Rattle.std.specs.Prelude.{◌≡◌, ⊤, ℕ, ◌^◌, ◌≤◌, ◌<◌, Bool, true, false, ◌||◌, ◌⊎◌, List, [], ◌∷◌, ◌++◌, length}
use Rattle.std.specs.Prelude.{codes, decimal}
use Rattle.ll_rights.specs.declared.errno.Errno.{Errno}
use Rattle.ll_rights.specs.Errno.{errno_number}
use Rattle.ll_rights.specs.declared.limits.TheConstants.{TREE_NODES}
use Rattle.ll_seq.specs.declared.call.Call.{Call}
use Rattle.ll_seq.specs.declared.call.Call.TheVariants.{Connect}
use Rattle.ll_seq.specs.declared.reply.Reply.{Reply}
use Rattle.ll_seq.specs.declared.reply.Reply.TheVariants.{Refused}
use Rattle.ll_seq.specs.declared.reply.Entry.{Entry}
use Rattle.ll_seq.specs.declared.rules.Rules.{Rules}
use Rattle.ll_wire.specs.Grammar.{line_of, call_tokens, IsCall, reply_tokens, IsReply}
use Rattle.ll_wire.specs.Reads.{holds_text, tells_text}
use Rattle.ll_wire.specs.declared.entry.TheConstants.{ENTRY_LIMIT}
use Rattle.ll_wire.specs.declared.header.Version.{Version}
use Rattle.ll_wire.specs.declared.header.Version.TheVariants.{One, Two, Three}
use Rattle.ll_wire.specs.declared.header.Header.{Header}

-- ---- entries

-- a command's call, or the connect of a client that comes by itself
abbrev pub IsEntryCall : Call → Type 0
IsEntryCall call = IsCall call ⊎ (call ≡ Connect)

-- The tree's own replies: no entry has HistoryFull (21), NoMemory or BadLine
abbrev pub IsEntryReply : Reply → Type 0
IsEntryReply reply = IsReply reply × ((errno : Errno) → reply ≡ Refused errno → errno_number errno ≤ 20)

-- the entries that have a spelling
abbrev pub IsEntry : Entry → Type 0
IsEntry e = (e.client < 2 ^ 64) × IsEntryCall e.call × IsEntryReply e.reply

-- the client's number, the call, the token `=`, and the reply
abbrev pub entry_tokens : Entry → List (List ℕ)
entry_tokens e = decimal e.client ∷ (call_tokens e.call ++ codes "=" ∷ reply_tokens e.reply)

abbrev pub entry_line : Entry → List ℕ
entry_line e = line_of (entry_tokens e)

-- the line spells the entry
pub record SpellsEntry (line : List ℕ) (e : Entry) : Type 0 where
  pub is_entry : IsEntry e
  pub short : length line ≤ ENTRY_LIMIT
  pub text : line ≡ entry_line e

-- Reading it takes memory: its call has a word or bytes, or its reply has bytes or names
abbrev pub entry_holds_text : Entry → Bool
entry_holds_text e = holds_text e.call || tells_text e.reply

-- ---- headers

-- an ABI level is 1, 2 or 3
abbrev pub IsVersion : Version → Type 0
IsVersion One = ⊤
IsVersion (Two abi) = (1 ≤ abi) × (abi ≤ 3)
IsVersion (Three abi) = (1 ≤ abi) × (abi ≤ 3)

-- the headers that have a spelling
abbrev pub IsHeader : Header → Type 0
IsHeader h = (1 ≤ h.nodes) × (h.nodes ≤ TREE_NODES) × IsVersion h.version

abbrev pub version_text : Version → List ℕ
version_text One = codes "1"
version_text (Two abi) = codes "2"
version_text (Three abi) = codes "3"

abbrev pub level_tokens : Version → List (List ℕ)
level_tokens One = []
level_tokens (Two abi) = codes "abi" ∷ decimal abi ∷ []
level_tokens (Three abi) = codes "abi" ∷ decimal abi ∷ []

-- The version, how many nodes may be alive in the tree, and the tree's ABI level, which version 1 doesn't have
abbrev pub header_tokens : Header → List (List ℕ)
header_tokens h =
    codes "landtree-history" ∷ version_text h.version ∷ codes "nodes" ∷ decimal h.nodes ∷ level_tokens h.version

-- the line spells the header
abbrev pub SpellsHeader : List ℕ → Header → Type 0
SpellsHeader line h = IsHeader h × (line ≡ line_of (header_tokens h))

-- The rules that the tree was created with. Version 1 has no level, and means 3. Copied descriptors came with version 3
abbrev pub version_rules : Version → Rules
version_rules One = record { abi = 3; copies = false }
version_rules (Two abi) = record { abi = abi; copies = false }
version_rules (Three abi) = record { abi = abi; copies = true }
