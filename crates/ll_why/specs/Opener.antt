-- Which entry opened the descriptor that decides a call, and what is printed for it. own
use Rattle.std.specs.Prelude.{◌≡◌, ℕ, ◌==◌, ◌&&◌, Bool, false, List, [], ◌∷◌, ◌++◌, Option, Some, None}
use Rattle.std.specs.Prelude.{codes, decimal, is_some, length, option_and_then, if◌then◌else◌}
use Rattle.std.specs.List.{concat}
use Rattle.std.specs.Option.{option_map_or}
use Rattle.ll_path.specs.declared.target.Target.{Target}
use Rattle.ll_seq.specs.History.{state_after}
use Rattle.ll_seq.specs.State.{State}
use Rattle.ll_seq.specs.declared.call.Call.{Call}
use Rattle.ll_seq.specs.declared.call.Call.TheVariants.{Open, Truncate}
use Rattle.ll_seq.specs.declared.reply.Entry.{Entry}
use Rattle.ll_seq.specs.declared.reply.Reply.{Reply}
use Rattle.ll_seq.specs.declared.reply.Reply.TheVariants.{Opened, Spawned}
use Rattle.ll_wire.specs.Grammar.{call_tokens, line_of}
use Rattle.ll_why.specs.Reasons.{kept_number}
use Rattle.ll_why.specs.declared.why.Why.{Why}
use Rattle.ll_why.specs.declared.why.Why.TheVariants.{Kept}
use Rattle.ll_why.specs.EntryJson.{opening_json}
use Rattle.ll_why.specs.Explained.{IsExplained}
use Rattle.ll_why.specs.Told.{told_text}
use Rattle.ll_why.specs.declared.explanation.Explanation.{Explanation}
use Rattle.ll_why.specs.declared.style.WhyStyle.{WhyStyle}
use Rattle.ll_why.specs.declared.style.WhyStyle.TheVariants.{Lines, Json}

-- the path that an opening opens
abbrev pub target_opened : Call → Option Target
target_opened (Open mode target) = Some target
target_opened call = None

abbrev pub is_opened : ℕ → Reply → Bool
is_opened fd (Opened number) = number == fd
is_opened fd reply = false

abbrev pub is_spawned : ℕ → Reply → Bool
is_spawned client (Spawned number) = number == client
is_spawned client reply = false

-- the entry opens the client's descriptor with this number
abbrev pub opens : ℕ → ℕ → Entry → Bool
opens client fd e = (e.client == client) && is_opened fd e.reply && is_some (target_opened e.call)

-- For each client and number, if known: the entries up to the one that opened that descriptor, and this entry
abbrev pub Openings : Type 0
Openings = ℕ → ℕ → Option (List Entry × Entry)

-- with one more entry, after those: a spawned client has what its parent has
abbrev pub opened_after : Openings → List Entry → Entry → Openings
opened_after known es e client fd =
    if opens client fd e then Some (es ++ e ∷ [], e)
    else known (if is_spawned client e.reply then e.client else client) fd

-- with some more entries
abbrev pub opened_by : Openings → List Entry → List Entry → Openings
opened_by known es [] = known
opened_by known es (e ∷ more) = opened_by (opened_after known es e) (es ++ e ∷ []) more

abbrev pub openings : List Entry → Openings
openings es = opened_by (λ client fd. None) [] es

-- the descriptor whose opening decided the call
abbrev pub kept_by : Call → Why → Option ℕ
kept_by call (Kept denial) = kept_number call
kept_by call why = None

abbrev pub kept_descriptor : Call → Option Explanation → Option ℕ
kept_descriptor call told = option_and_then (λ (t : Explanation). kept_by call t.why) told

-- if a descriptor decides the call, which follows these entries: that descriptor's opening
abbrev pub opening_behind : List Entry → Entry → Option Explanation → Option (List Entry × Entry)
opening_behind es e told = option_and_then (λ (fd : ℕ). openings es e.client fd) (kept_descriptor e.call told)

-- its number, its client and its call, and what policy says of a truncate there
abbrev pub opening_lines : ℕ → Entry → Call → Option Explanation → List ℕ
opening_lines number e truncate told = concat (
    codes "opened by entry " ∷ decimal number ∷ codes ", client " ∷ decimal e.client ∷ codes ": "
    ∷ line_of (call_tokens e.call) ∷ codes "a truncate there:\n" ∷ option_map_or (told_text truncate) told [] ∷ [])

abbrev pub opening_text : WhyStyle → ℕ → Entry → Call → Option Explanation → List ℕ
opening_text Lines number e truncate told = opening_lines number e truncate told
opening_text Json number e truncate told = opening_json number e truncate told

-- if no opening decides the call
abbrev pub no_opening : WhyStyle → List ℕ
no_opening Lines = []
no_opening Json = codes "null"

-- the text is on the last of these entries, with a truncate of what it opens, in the state after it
pub record TellsOpening (style : WhyStyle) (s : State) (upto : List Entry) (e : Entry) (text : List ℕ) : Type 0 where
  pub target : Target
  pub told : Option Explanation
  pub opens : target_opened e.call ≡ Some target
  pub explained : IsExplained s.rules.abi (state_after s upto) e.client (Truncate target 0) told
  pub is : text ≡ opening_text style (length upto) e (Truncate target 0) told

abbrev pub IsOpeningText : WhyStyle → State → Option (List Entry × Entry) → List ℕ → Type 0
IsOpeningText style s None text = text ≡ no_opening style
IsOpeningText style s (Some opening) text = TellsOpening style s opening.0 opening.1 text
