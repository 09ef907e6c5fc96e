-- Parts of entries and of headers, for the readers' helpers: no public contract cites this file.
use Rattle.std.specs.Prelude.{◌≡◌, ◌↔◌, ℕ, ◌≤◌, List, ◌∷◌, ◌++◌, codes, decimal}
use Rattle.std.specs.List.{join_with_byte}
use Rattle.ll_rights.specs.declared.limits.TheConstants.{TREE_NODES}
use Rattle.ll_seq.specs.declared.call.Call.{Call}
use Rattle.ll_seq.specs.declared.reply.Reply.{Reply}
use Rattle.ll_seq.specs.declared.reply.Entry.{Entry}
use Rattle.ll_wire.specs.Grammar.{call_tokens, reply_tokens}
use Rattle.ll_wire.specs.Entries.{IsEntryCall, IsEntryReply, IsEntry, entry_tokens, IsVersion, version_text}
use Rattle.ll_wire.specs.Entries.{level_tokens, IsHeader, header_tokens}
use Rattle.ll_wire.specs.declared.header.Version.{Version}
use Rattle.ll_wire.specs.declared.header.Header.{Header}

-- the tokens spell the call of an entry
abbrev pub SpellsEntryCall : List (List ℕ) → Call → Type 0
SpellsEntryCall tokens call = IsEntryCall call × (tokens ≡ call_tokens call)

-- the text spells the reply of an entry
abbrev pub SpellsEntryReply : List ℕ → Reply → Type 0
SpellsEntryReply text reply = IsEntryReply reply × (text ≡ join_with_byte 32 (reply_tokens reply))

-- the text spells what follows the client: the call, the sign, and the reply
abbrev pub SpellsAnswered : List ℕ → Call → Reply → Type 0
SpellsAnswered text call reply =
    IsEntryCall call × IsEntryReply reply
    × (text ≡ join_with_byte 32 (call_tokens call ++ codes "=" ∷ reply_tokens reply))

-- the text spells the calls that the tokens spell, with the replies that the rest spells
abbrev pub CutsAt : List ℕ → List (List ℕ) → List ℕ → Type 0
CutsAt text tokens rest = (call : Call) (reply : Reply)
    → SpellsAnswered text call reply ↔ (SpellsEntryCall tokens call × SpellsEntryReply rest reply)

-- the part before the line feed spells the entry
abbrev pub SpellsEntryBody : List ℕ → Entry → Type 0
SpellsEntryBody body e = IsEntry e × (body ≡ join_with_byte 32 (entry_tokens e))

abbrev pub SpellsNodes : List ℕ → ℕ → Type 0
SpellsNodes token nodes = (1 ≤ nodes) × (nodes ≤ TREE_NODES) × (token ≡ decimal nodes)

abbrev pub SpellsLevel : List ℕ → ℕ → Type 0
SpellsLevel token abi = (1 ≤ abi) × (abi ≤ 3) × (token ≡ decimal abi)

-- the first token is the version's, and the others give its level
abbrev pub SpellsVersion : List ℕ → List (List ℕ) → Version → Type 0
SpellsVersion number level version =
    IsVersion version × (number ≡ version_text version) × (level ≡ level_tokens version)

abbrev pub SpellsHeaderTokens : List (List ℕ) → Header → Type 0
SpellsHeaderTokens tokens header = IsHeader header × (tokens ≡ header_tokens header)
