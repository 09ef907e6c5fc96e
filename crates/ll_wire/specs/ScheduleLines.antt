-- The only spelling of each line of a schedule. own
use Rattle.std.specs.Prelude.{◌≡◌, ℕ, ◌≤◌, Bool, false, List, [], ◌∷◌, ◌++◌, Option, Some, None, IfSome, length, codes}
use Rattle.std.specs.Prelude.{decimal, option_map, unwrap_or}
use Rattle.ll_seq.specs.declared.call.Call.{Call}
use Rattle.ll_laws.specs.declared.step.Step.TheVariants.{Join, Begin, Descend, Fork, Commit, Restart, FdCommit}
use Rattle.ll_laws.specs.declared.step.Step.TheVariants.{ClientStep}
use Rattle.ll_wire.specs.Grammar.{line_of, call_tokens, IsCall, IsClient}
use Rattle.ll_wire.specs.Reads.{holds_text}
use Rattle.ll_wire.specs.declared.read.TheConstants.{LINE_LIMIT}
use Rattle.ll_wire.specs.declared.schedule.ScheduleLine.{ScheduleLine}
use Rattle.ll_wire.specs.declared.schedule.ScheduleLine.TheVariants as lines

-- the client that a line names, the line's word, and the call that it makes
abbrev pub form : ScheduleLine → Option ℕ × List ℕ × Option Call
form (lines.Step Join) = (None, codes "connect", None)
form (lines.Step (Begin client call)) = (Some client, codes "begin", Some call)
form (lines.Step (Descend client)) = (Some client, codes "descend", None)
form (lines.Step (Fork client)) = (Some client, codes "fork", None)
form (lines.Step (Commit client)) = (Some client, codes "commit", None)
form (lines.Step (Restart client)) = (Some client, codes "restart", None)
form (lines.Step (FdCommit client call)) = (Some client, codes "fd", Some call)
form (lines.Step (ClientStep client call)) = (Some client, codes "step", Some call)
form (lines.Do client call) = (Some client, codes "do", Some call)

abbrev pub client_in : ScheduleLine → Option ℕ
client_in value = (form value).0

abbrev pub call_in : ScheduleLine → Option Call
call_in value = (form value).2

-- `@` (64) and the client's number, also for the first client
abbrev pub name_tokens : Option ℕ → List (List ℕ)
name_tokens None = []
name_tokens (Some client) = (64 ∷ decimal client) ∷ []

-- the client's name, the word, and the call
abbrev pub line_tokens : ScheduleLine → List (List ℕ)
line_tokens value =
    name_tokens (client_in value) ++ (form value).1 ∷ unwrap_or (option_map call_tokens (call_in value)) []

-- the lines that have a spelling
abbrev pub IsScheduleLine : ScheduleLine → Type 0
IsScheduleLine value = IfSome (client_in value) IsClient × IfSome (call_in value) IsCall

-- the line spells the value
pub record SpellsScheduleLine (line : List ℕ) (value : ScheduleLine) : Type 0 where
  pub is_line : IsScheduleLine value
  pub short : length line ≤ LINE_LIMIT
  pub text : line ≡ line_of (line_tokens value)

-- reading it takes memory, because its call has a word or bytes
abbrev pub line_holds_text : ScheduleLine → Bool
line_holds_text value = unwrap_or (option_map holds_text (call_in value)) false
