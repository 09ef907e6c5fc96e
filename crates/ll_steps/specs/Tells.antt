-- The outcome of a schedule's line, and the line printed for it. own
use Rattle.std.specs.Prelude.{◌≡◌, ℕ, ◌≤◌, Bool, true, false, List, [], ◌∷◌, IfSome, Result, Ok, Err, codes, decimal}
use Rattle.std.specs.Prelude.{slice_get}
use Rattle.std.specs.Option.{option_map_or}
use Rattle.ll_rights.specs.declared.errno.Errno.{Errno}
use Rattle.ll_rights.specs.declared.errno.Errno.TheVariants.{NoMemory, BadLine}
use Rattle.ll_rights.specs.Map.{len}
use Rattle.ll_seq.specs.declared.reply.Entry.{Entry}
use Rattle.ll_seq.specs.declared.reply.Reply.TheVariants as reply
use Rattle.ll_laws.specs.World.{World, shown}
use Rattle.ll_steps.specs.declared.report.Report.{Report}
use Rattle.ll_steps.specs.declared.report.Report.TheVariants.{NotNow, Begun, Stands, Forked, Restarted, Joined}
use Rattle.ll_steps.specs.declared.report.Report.TheVariants.{Replied, Refused}
use Rattle.ll_steps.specs.Makes.{Makes}
use Rattle.ll_steps.specs.CallOutcomes.{Calls}
use Rattle.ll_wire.specs.Grammar.{line_of, reply_tokens, reply_line}
use Rattle.ll_wire.specs.ScheduleLines.{SpellsScheduleLine, client_in, line_holds_text}
use Rattle.ll_wire.specs.declared.schedule.ScheduleLine.{ScheduleLine}
use Rattle.ll_wire.specs.declared.schedule.ScheduleLine.TheVariants as lines

-- a reply is printed from the history's entry with it
abbrev pub outcome_tokens : List Entry → Report → List (List ℕ)
outcome_tokens history NotNow = codes "NotNow" ∷ []
outcome_tokens history Begun = codes "begun" ∷ []
outcome_tokens history (Stands inode) = codes "at" ∷ decimal inode ∷ []
outcome_tokens history Forked = codes "forked" ∷ []
outcome_tokens history Restarted = codes "restarted" ∷ []
outcome_tokens history (Joined number) = codes "client" ∷ decimal number ∷ []
outcome_tokens history (Replied k) =
    codes "reply" ∷ option_map_or (λ (entry : Entry). reply_tokens entry.reply) (slice_get history k) []
outcome_tokens history (Refused errno) = codes "reply" ∷ reply_tokens (reply.Refused errno)

abbrev pub outcome_line : List Entry → Report → List ℕ
outcome_line history outcome = line_of (outcome_tokens history outcome)

-- the client that the line names, if any, exists: clients are numbered from 1 in the order in which they come
abbrev pub HasCome : World → ScheduleLine → Type 0
HasCome w value = IfSome (client_in value) (λ client. client ≤ len (shown w).clients)

-- the step is made, or all steps of the call are
abbrev pub Does : World → ScheduleLine → Report → World → Type 0
Does w (lines.Step step) outcome w' = Makes w step outcome w'
Does w (lines.Do client call) outcome w' = Calls w client call outcome w'

-- The outcome of a piece that spells a line for a client that exists is that of its step, or of all steps of its call.
-- If reading it takes memory, it may be NoMemory. That of every other piece is BadLine, and changes nothing
pub data Answers (w : World) (piece : List ℕ) : Result Report Errno → World → Type 0 where
  does : (value : ScheduleLine) (outcome : Report) (w' : World) → SpellsScheduleLine piece value → HasCome w value
      → Does w value outcome w' → Answers w piece (Ok outcome) w'
  unread : (value : ScheduleLine) → SpellsScheduleLine piece value → HasCome w value → line_holds_text value ≡ true
      → Answers w piece (Err NoMemory) w
  bad : ((value : ScheduleLine) → SpellsScheduleLine piece value → HasCome w value → ⊥)
      → Answers w piece (Err BadLine) w

-- the line printed for a piece: its outcome's, or why it was not read
abbrev pub answer_line : List Entry → Result Report Errno → List ℕ
answer_line history (Ok outcome) = outcome_line history outcome
answer_line history (Err errno) = reply_line (reply.Refused errno)

-- the piece is answered with this line
abbrev pub Tells : World → (piece line : List ℕ) → World → Type 0
Tells w piece line w' =
    (answer : Result Report Errno) × Answers w piece answer w' × (line ≡ answer_line w'.history answer)

-- ---- Strict schedules

-- The piece was a step that was enabled and made. One that isn't enabled is NotNow. A refusal without an entry (no more
-- room or memory, or no more clients) has no effect but to end a walk
abbrev pub is_made : Result Report Errno → Bool
is_made (Ok NotNow) = false
is_made (Ok (Refused errno)) = false
is_made (Ok outcome) = true
is_made (Err errno) = false

-- the piece was such a step, and is answered with its outcome's line
abbrev pub TellsMade : World → (piece line : List ℕ) → World → Type 0
TellsMade w piece line w' =
    (answer : Result Report Errno) × Answers w piece answer w' × (is_made answer ≡ true)
    × (line ≡ answer_line w'.history answer)
