-- Parts of lines of schedules, for the readers' helpers: no public contract cites this file.
use Rattle.std.specs.Prelude.{◌≡◌, ℕ, List, [], ◌∷◌, Some, IfSome, option_map, unwrap_or}
use Rattle.ll_wire.specs.Grammar.{call_tokens, IsCall}
use Rattle.ll_wire.specs.ScheduleLines.{form, client_in, call_in, line_tokens, IsScheduleLine}
use Rattle.ll_wire.specs.declared.schedule.ScheduleLine.{ScheduleLine}

-- the tokens spell the line
abbrev pub SpellsLineTokens : List (List ℕ) → ScheduleLine → Type 0
SpellsLineTokens tokens value = IsScheduleLine value × (tokens ≡ line_tokens value)

-- the tokens are those after the client's name
abbrev pub SpellsBehind : ℕ → List (List ℕ) → ScheduleLine → Type 0
SpellsBehind client tokens value =
    (client_in value ≡ Some client) × IfSome (call_in value) IsCall
    × (tokens ≡ (form value).1 ∷ unwrap_or (option_map call_tokens (call_in value)) [])
