-- What spells a part of a line, for the readers' helpers: no public contract cites this file.
use Rattle.std.specs.Prelude.{◌≡◌, ⊤, true, ℕ, ◌^◌, ◌<◌, ◌≤◌, ◌⊎◌, List, [], ◌∷◌, ◌++◌, Result, decimal}
use Rattle.std.specs.List.{flat_map, join_with_byte}
use Rattle.ll_rights.specs.declared.errno.Errno.{Errno}
use Rattle.ll_rights.specs.declared.access.Access.{Access}
use Rattle.ll_rights.specs.Access.{access_text}
use Rattle.ll_rights.specs.declared.limits.TheConstants.{TREE_CLIENTS}
use Rattle.ll_path.specs.declared.target.Target.{Target}
use Rattle.ll_path.specs.Target.{target_text}
use Rattle.ll_seq.specs.declared.call.Call.{Call}
use Rattle.ll_seq.specs.declared.reply.Reply.{Reply}
use Rattle.ll_seq.specs.Listed.{IsData, AreListed}
use Rattle.ll_wire.specs.Grammar.{SpellsTarget, data_text, call_tokens, IsCall, client_tokens, IsClient, reply_tokens}
use Rattle.ll_wire.specs.Grammar.{IsReply}
use Rattle.ll_wire.specs.Reads.{ReadsBy, holds_text}

abbrev pub Reads : {V : Type 0} → (V → Type 0) → Result V Errno → Type 0
Reads Spells = ReadsBy Spells (λ _. ⊤)

abbrev pub SpellsNumber : List ℕ → ℕ → Type 0
SpellsNumber token number = (number < 2 ^ 64) × (token ≡ decimal number)

abbrev pub SpellsRights : List ℕ → Access → Type 0
SpellsRights token rights = (rights.0 < 2 ^ 64) × (token ≡ access_text rights.0)

abbrev pub SpellsData : List ℕ → List ℕ → Type 0
SpellsData token bytes = IsData bytes × (token ≡ data_text bytes)

-- a hexadecimal digit, in lower case
abbrev pub IsDigit : ℕ → Type 0
IsDigit c = ((48 ≤ c) × (c ≤ 57)) ⊎ ((97 ≤ c) × (c ≤ 102))

-- the token names the client
abbrev pub SpellsClient : List ℕ → ℕ → Type 0
SpellsClient token client = IsClient client × (token ≡ 64 ∷ decimal client)

-- the token names a client other than the first
abbrev pub NamesClient : List ℕ → ℕ → Type 0
NamesClient token client = (2 ≤ client) × (client ≤ TREE_CLIENTS) × (token ≡ 64 ∷ decimal client)

-- there is one token, the target's
abbrev pub SpellsOneTarget : List (List ℕ) → Target → Type 0
SpellsOneTarget tokens target = SpellsTarget (target_text target) target × (tokens ≡ target_text target ∷ [])

-- there are two tokens, the first target's and the second's
abbrev pub SpellsTwoTargets : List (List ℕ) → Target × Target → Type 0
SpellsTwoTargets tokens targets =
    SpellsTarget (target_text targets.0) targets.0 × SpellsTarget (target_text targets.1) targets.1
    × (tokens ≡ target_text targets.0 ∷ target_text targets.1 ∷ [])

-- the tokens spell the call
abbrev pub SpellsCall : List (List ℕ) → Call → Type 0
SpellsCall tokens call = IsCall call × (tokens ≡ call_tokens call)

abbrev pub ReadsCall : List (List ℕ) → Result Call Errno → Type 0
ReadsCall tokens = ReadsBy (SpellsCall tokens) (λ call. holds_text call ≡ true)

-- the tokens spell the call, made by this client of the session
abbrev pub SpellsTokens : List (List ℕ) → ℕ → Call → Type 0
SpellsTokens tokens client call = IsClient client × IsCall call × (tokens ≡ client_tokens client ++ call_tokens call)

-- the text is the names, with a space before each
abbrev pub SpellsNames : List ℕ → List (List ℕ) → Type 0
SpellsNames text names = AreListed names × (text ≡ flat_map (λ name. 32 ∷ name) names)

-- there is one token, the number's
abbrev pub SpellsOneNumber : List (List ℕ) → ℕ → Type 0
SpellsOneNumber tokens number = (number < 2 ^ 64) × (tokens ≡ decimal number ∷ [])

-- the tokens spell the reply
abbrev pub SpellsReplyTokens : List (List ℕ) → Reply → Type 0
SpellsReplyTokens tokens reply = IsReply reply × (tokens ≡ reply_tokens reply)

-- the part before the line feed spells the reply
abbrev pub SpellsReplyBody : List ℕ → Reply → Type 0
SpellsReplyBody body reply = IsReply reply × (body ≡ join_with_byte 32 (reply_tokens reply))
