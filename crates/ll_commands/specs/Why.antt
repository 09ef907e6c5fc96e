-- What `why` prints, for an entry of a history or for a command. own
use Rattle.std.specs.Prelude.{◌≡◌, ◌⊎◌, ⊤, ℕ, false, List, [], ◌∷◌, Option, Some, None, Result, Ok, Err, IfSome}
use Rattle.std.specs.Prelude.{string_bytes}
use Rattle.std.specs.List.{AllZip}
use Rattle.clap.specs.Words.{Text}
use Rattle.ll_rights.specs.Map.{has}
use Rattle.ll_seq.specs.State.{State}
use Rattle.ll_seq.specs.Step.{step}
use Rattle.ll_seq.specs.declared.call.Call.{Call}
use Rattle.ll_wire.specs.Pieces.{pieces}
use Rattle.ll_audit.specs.Saved.{verdict_line}
use Rattle.ll_audit.specs.declared.verdict.Verdict.TheVariants as verdict
use Rattle.ll_program.specs.Options.{Asked, TreeOrder, WhyOrder, asked_by, of_command, of_entry, profile_tree}
use Rattle.ll_program.specs.Policy.{IsSetup, Lacks}
use Rattle.ll_program.specs.declared.report.AnswerForm.{AnswerForm}
use Rattle.ll_program.specs.declared.report.AnswerForm.TheVariants as answers
use Rattle.ll_program.specs.declared.conclusion.Conclusion.{Conclusion}
use Rattle.ll_program.specs.declared.conclusion.Conclusion.TheVariants.{Done, Judged}
use Rattle.ll_program.specs.declared.failure.Failure.{Failure}
use Rattle.ll_program.specs.declared.failure.Failure.TheVariants.{CommandLine, Policy, Opening, File, Output, Socket}
use Rattle.ll_program.specs.declared.failure.Failure.TheVariants.{NoMemory}
use Rattle.ll_session.specs.declared.setup.Setup.{Setup}
use Rattle.ll_program.specs.Sources.{named}
use Rattle.ll_wire.specs.Transcript.{Writes}
use Rattle.ll_commands.specs.OpenedTree.{IsStopped, Opens}
use Rattle.ll_commands.specs.Output.{FailsToTell}
use Rattle.ll_why.specs.CallWhy.{IsCallWhy, IsCommand}
use Rattle.ll_why.specs.Entries.{IsHistoryWhy}
use Rattle.ll_why.specs.declared.history.HistoryWhy.TheVariants as history
use Rattle.ll_why.specs.declared.style.WhyStyle.{WhyStyle}
use Rattle.ll_why.specs.declared.style.WhyStyle.TheVariants.{Lines, Json}
use Rattle.ll_commands.specs.declared.why.Answer.{Answer}
use Rattle.ll_commands.specs.declared.why.Answer.TheVariants.{Told, BadLine}

abbrev pub IsNoCommand : Text → Type 0
IsNoCommand word = (call : Call) → IsCommand word call → ⊥

-- one of the words is none
abbrev pub HasNoCommand : List Text → Type 0
HasNoCommand [] = ⊥
HasNoCommand (word ∷ words) = IsNoCommand word ⊎ HasNoCommand words

-- the client makes these calls in turn, whatever their replies
abbrev pub Follows : (client : ℕ) → State → List Call → State → Type 0
Follows client s [] t = t ≡ s
Follows client s (call ∷ calls) t =
    (fresh : ℕ) × (has s.clients fresh ≡ false) × Follows client (step s client call fresh).1 calls t

-- the text on the command that the word spells, after those that the words before spell, in a new tree by the policy
-- with this text
pub record IsCommandWhy (style : WhyStyle) (tree : TreeOrder) (policy : List ℕ) (before : List Text)
    (word text : List ℕ) : Type 0 where
  pub setup : Setup
  pub client : ℕ
  pub opened : State
  pub calls : List Call
  pub state : State
  pub call : Call
  pub is_setup : IsSetup tree policy setup
  pub opens : Opens setup client opened
  pub spell : AllZip IsCommand before calls
  pub follows : Follows client opened calls state
  pub spells : IsCommand word call
  pub is : IsCallWhy style setup.rules.abi state client call text

abbrev pub why_style : Option AnswerForm → WhyStyle
why_style (Some answers.Json) = Json
why_style form = Lines

abbrev pub EntryAnswers : WhyStyle → ℕ → List ℕ → Answer → Type 0
EntryAnswers style number file (Told text) = IsHistoryWhy style (pieces file) number (history.Told text)
EntryAnswers style number file (BadLine line) = IsHistoryWhy style (pieces file) number (history.BadLine line)

abbrev pub CommandAnswers : WhyStyle → TreeOrder → (before : List Text) → (word file : List ℕ) → Answer → Type 0
CommandAnswers style tree before word file (Told text) = IsCommandWhy style tree file before word (string_bytes text)
CommandAnswers style tree before word file (BadLine line) = ⊥

-- the answer, if the file of the history or the policy has this text
abbrev pub Answers : WhyStyle → ℕ → Option Asked → List ℕ → Answer → Type 0
Answers style nodes None file answer = ⊥
Answers style nodes (Some (of_entry name number)) file answer = EntryAnswers style number file answer
Answers style nodes (Some (of_command policy profile before word)) file answer =
    CommandAnswers style (profile_tree policy profile nodes) before word file answer

abbrev pub IsAnswer : WhyOrder → List ℕ → Answer → Type 0
IsAnswer order file answer = Answers (why_style order.form) order.nodes (asked_by order) file answer

abbrev pub answer_text : Answer → List ℕ
answer_text (Told text) = string_bytes text
answer_text (BadLine line) = verdict_line (verdict.BadLine line)

-- a bad line is concluded as an audit would
abbrev pub conclusion_of : Answer → Conclusion
conclusion_of (Told text) = Done
conclusion_of (BadLine line) = Judged (verdict.BadLine line)

-- an answer is written
abbrev pub IsTold : WhyOrder → (file written : List ℕ) → Type 0
IsTold order file written = (answer : Answer) × IsAnswer order file answer × (written ≡ answer_text answer)

-- this is written, and this is the conclusion
abbrev pub IsToldSo : WhyOrder → List ℕ → Conclusion → List ℕ → Type 0
IsToldSo order file conclusion written =
    (answer : Answer) × IsAnswer order file answer × (written ≡ answer_text answer)
    × (conclusion ≡ conclusion_of answer)

-- why an entry isn't explained: the history has none with this number; its file can't be read; NoMemory
abbrev pub EntryFails : ℕ → List ℕ → Failure → Type 0
EntryFails number file CommandLine = IsHistoryWhy Lines (pieces file) number history.NoEntry
EntryFails number file (Policy fault) = ⊥
EntryFails number file (Opening refusal) = ⊥
EntryFails number file File = ⊤
EntryFails number file Output = ⊥
EntryFails number file Socket = ⊥
EntryFails number file NoMemory = ⊤

-- why a command isn't explained: it, or one before it, spells none; there is no setup; a call that the policy asks for
-- is refused; and as above
abbrev pub CommandFails : TreeOrder → (before : List Text) → (word file : List ℕ) → Failure → Type 0
CommandFails tree before word file CommandLine =
    (IsNoCommand word ⊎ HasNoCommand before) ⊎ Lacks tree file CommandLine
CommandFails tree before word file (Policy fault) = Lacks tree file (Policy fault)
CommandFails tree before word file (Opening refusal) =
    (setup : Setup) × IsSetup tree file setup × IsStopped setup refusal
CommandFails tree before word file File = ⊤
CommandFails tree before word file Output = ⊥
CommandFails tree before word file Socket = ⊥
CommandFails tree before word file NoMemory = ⊤

-- without a question, the words are wrong
abbrev pub Fails : ℕ → Option Asked → List ℕ → Failure → Type 0
Fails nodes None file failure = failure ≡ CommandLine
Fails nodes (Some (of_entry name number)) file failure = EntryFails number file failure
Fails nodes (Some (of_command policy profile before word)) file failure =
    CommandFails (profile_tree policy profile nodes) before word file failure

abbrev pub LacksAnswer : WhyOrder → List ℕ → Failure → Type 0
LacksAnswer order file failure = Fails order.nodes (asked_by order) file failure

-- why no answer is written whole, if the file has this text
abbrev pub MayFail : WhyOrder → List ℕ → (out out' : Option (List ℕ)) → Failure → Type 0
MayFail order file out out' failure = FailsToTell (IsTold order file) (LacksAnswer order file) out out' failure

-- the file that is asked about: a history's, or a policy's; standard input has no name
abbrev pub file_asked : Option Asked → Option (List ℕ)
file_asked None = None
file_asked (Some (of_entry history number)) = named history
file_asked (Some (of_command policy profile before word)) = Some policy

-- the answer on the file that the words name is written, or the history's first bad line; or it isn't written whole
abbrev pub EndsWhy : (texts : Option (List ℕ) → Option (List ℕ)) → WhyOrder → (out out' : Option (List ℕ))
    → Result Conclusion Failure → Type 0
EndsWhy texts order out out' (Ok conclusion) =
    (file : List ℕ) × IfSome (texts (file_asked (asked_by order))) (λ told. file ≡ told)
    × Writes out out' (IsToldSo order file conclusion)
EndsWhy texts order out out' (Err failure) =
    (file : List ℕ) × IfSome (texts (file_asked (asked_by order))) (λ told. file ≡ told)
    × MayFail order file out out' failure
