-- What is printed for an entry of a history. own
use Rattle.std.specs.Prelude.{◌≡◌, ◌⊎◌, ℕ, ◌-◌, ◌≤◌, ◌<◌, false, not, List, [], ◌∷◌, ◌++◌, Option, Some}
use Rattle.std.specs.Prelude.{codes, decimal, length, slice_get, string_bytes, take, if◌then◌else◌}
use Rattle.std.specs.List.{concat}
use Rattle.std.specs.Option.{option_map_or}
use Rattle.ll_rights.specs.Map.{has}
use Rattle.ll_seq.specs.History.{IsLegal, MayStand, is_connect, state_after}
use Rattle.ll_seq.specs.State.{State}
use Rattle.ll_seq.specs.Step.{step}
use Rattle.ll_seq.specs.declared.reply.Entry.{Entry}
use Rattle.ll_wire.specs.Grammar.{call_tokens, line_of, reply_tokens}
use Rattle.ll_wire.specs.declared.header.Header.{Header}
use Rattle.ll_audit.specs.Saved.{IsFirstBad, Tell, opened}
use Rattle.ll_why.specs.EntryJson.{entry_json}
use Rattle.ll_why.specs.Explained.{IsExplained}
use Rattle.ll_why.specs.Opener.{IsOpeningText, opening_behind}
use Rattle.ll_why.specs.Told.{told_text}
use Rattle.ll_why.specs.declared.entry.Standing.{Standing}
use Rattle.ll_why.specs.declared.entry.Standing.TheVariants.{Stands, NoCaller, Answers}
use Rattle.ll_why.specs.declared.explanation.Explanation.{Explanation}
use Rattle.ll_why.specs.declared.history.HistoryWhy.{HistoryWhy}
use Rattle.ll_why.specs.declared.history.HistoryWhy.TheVariants.{Told, BadLine, NoEntry}
use Rattle.ll_why.specs.declared.style.WhyStyle.{WhyStyle}
use Rattle.ll_why.specs.declared.style.WhyStyle.TheVariants.{Lines, Json}

-- Stands: the entry is legal in this state. NoCaller: it isn't its client's turn, as a call needs an existing client,
-- and a connect a new one. Answers: what the tree answers instead; a spawned client has any unused number
abbrev pub IsStanding : State → Entry → Standing → Type 0
IsStanding s e Stands = MayStand s e
IsStanding s e NoCaller = has s.clients e.client ≡ is_connect e.call
IsStanding s e (Answers reply) =
    (MayStand s e → ⊥) × (has s.clients e.client ≡ not (is_connect e.call))
    × (fresh : ℕ) × (has s.clients fresh ≡ false) × (reply ≡ (step s e.client e.call fresh).0)

abbrev pub standing_line : Entry → Standing → List ℕ
standing_line e Stands = []
standing_line e NoCaller =
    if is_connect e.call then codes "may not stand: the client is there already\n"
    else codes "may not stand: the client isn't there\n"
standing_line e (Answers reply) = line_of (codes "may not stand: the tree answers" ∷ reply_tokens reply)

-- its number, its client, its call and its reply, whether it is legal, and what policy says of the call
abbrev pub entry_lines : ℕ → Entry → Standing → Option Explanation → List ℕ
entry_lines number e standing told = concat (
    codes "entry " ∷ decimal number ∷ codes ", client " ∷ decimal e.client ∷ codes ": "
    ∷ line_of (call_tokens e.call) ∷ line_of (codes "answered" ∷ reply_tokens e.reply)
    ∷ standing_line e standing ∷ option_map_or (told_text e.call) told [] ∷ [])

-- with this opening
abbrev pub entry_text : WhyStyle → ℕ → Entry → Standing → Option Explanation → (opening : List ℕ) → List ℕ
entry_text Lines number e standing told opening = entry_lines number e standing told ++ opening
entry_text Json number e standing told opening = entry_json number e standing told opening

-- it is the wanted entry or an earlier one; the entries before it are legal, and if it is earlier, it isn't
pub record IsToldOf (s : State) (entries : List Entry) (wanted number : ℕ) : Type 0 where
  pub first : 1 ≤ number
  pub last : number ≤ wanted
  pub legal : IsLegal s (take (number - 1) entries)
  pub one : (number ≡ wanted) ⊎ (IsLegal s (take number entries) → ⊥)

-- The text is about the entry with this number, in the state that the entries before it lead to. It includes the
-- opening of the descriptor that decides its call
pub record IsTextOf (style : WhyStyle) (s : State) (entries : List Entry) (number : ℕ) (text : List ℕ) : Type 0 where
  pub entry : Entry
  pub standing : Standing
  pub told : Option Explanation
  pub opening : List ℕ
  pub at : slice_get entries (number - 1) ≡ Some entry
  pub stands : IsStanding (state_after s (take (number - 1) entries)) entry standing
  pub explained : IsExplained s.rules.abi (state_after s (take (number - 1) entries)) entry.client entry.call told
  pub opened : IsOpeningText style s (opening_behind (take (number - 1) entries) entry told) opening
  pub is : text ≡ entry_text style number entry standing told opening

-- the line on why the entry with this number isn't legal, in the state that the entries before it lead to
pub record IsWhyNot (s : State) (entries : List Entry) (number : ℕ) (line : List ℕ) : Type 0 where
  pub entry : Entry
  pub standing : Standing
  pub at : slice_get entries (number - 1) ≡ Some entry
  pub stands : IsStanding (state_after s (take (number - 1) entries)) entry standing
  pub fails : IsLegal s (take number entries) → ⊥
  pub is : line ≡ standing_line entry standing

-- on the wanted entry, or on the first before it that isn't legal
abbrev pub IsEntryWhy : WhyStyle → State → List Entry → ℕ → List ℕ → Type 0
IsEntryWhy style s entries wanted text =
    (number : ℕ) × IsToldOf s entries wanted number × IsTextOf style s entries number text

-- the text on the entry with this number, from 1, of a saved history with these lines; or its first bad line; or that
-- it has no such entry
abbrev pub IsHistoryWhy : WhyStyle → List (List ℕ) → ℕ → HistoryWhy → Type 0
IsHistoryWhy style lines wanted (Told text) =
    (h : Header) × (es : List Entry) × Tell lines h es × IsEntryWhy style (opened h) es wanted (string_bytes text)
IsHistoryWhy style lines wanted (BadLine line) = IsFirstBad lines line
IsHistoryWhy style lines wanted NoEntry =
    (h : Header) × (es : List Entry) × Tell lines h es × ((wanted ≡ 0) ⊎ (length es < wanted))
