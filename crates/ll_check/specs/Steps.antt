-- Schedules whose lines say what must come out: the tests that they spell. own
use Rattle.std.specs.Prelude.{◌≡◌, ℕ, ◌+◌, ◌⊎◌, List, [], ◌∷◌, ◌++◌, length, slice_get, take, drop, Some, codes}
use Rattle.std.specs.Prelude.{Bool, true, false, is_some}
use Rattle.ll_wire.specs.Pieces.{pieces}
use Rattle.ll_wire.specs.ScheduleLines.{SpellsScheduleLine}
use Rattle.ll_wire.specs.declared.schedule.ScheduleLine.{ScheduleLine}
use Rattle.ll_program.specs.Comments.{body_of, is_silent}
use Rattle.ll_check.specs.declared.outcomes.WantedOutcome.TheVariants.{Made}
use Rattle.ll_check.specs.declared.steps.StepFile.{StepFile}
use Rattle.ll_check.specs.declared.steps.StepTest.{StepTest}
use Rattle.ll_check.specs.Files.{Source}
use Rattle.ll_check.specs.Outcomes.{SpellsOutcome, outcome_text}

-- ---- lines

-- a step as in a schedule, or all steps of a call, of any client that a tree may have
abbrev pub SpellsStep : List ℕ → ScheduleLine → Type 0
SpellsStep text step' = SpellsScheduleLine (text ++ 10 ∷ []) step'

-- a step alone, which must be made; or a step, ` = ` and its expected outcome
abbrev pub SpellsStepTest : List ℕ → StepTest → Type 0
SpellsStepTest body test =
    SpellsStep test.text.items test.step
    × (((body ≡ test.text.items) × (test.wanted ≡ Made) × (test.told.items ≡ outcome_text Made))
    ⊎ ((body ≡ test.text.items ++ (codes " = " ++ test.told.items)) × SpellsOutcome test.told.items test.wanted))

-- the line is neither silent nor a test
abbrev pub SaysNoStep : (line : List ℕ) → Type 0
SaysNoStep line =
    (is_silent (body_of line) ≡ false) × ((test : StepTest) → SpellsStepTest (body_of line) test → ⊥)

-- the line with this number is silent, or gives its test
abbrev pub GivesSteps : (line : List ℕ) → (number : ℕ) → List StepTest → Type 0
GivesSteps line number tests =
    ((is_silent (body_of line) ≡ true) × (tests ≡ []))
    ⊎ ((test : StepTest) × SpellsStepTest (body_of line) test × (test.line ≡ number) × (tests ≡ test ∷ []))

-- the lines, the first of which has this number, give these tests
abbrev pub AreSteps : (number : ℕ) → (lines : List (List ℕ)) → List StepTest → Type 0
AreSteps number [] tests = tests ≡ []
AreSteps number (line ∷ lines) tests =
    (own rest : List StepTest) × (tests ≡ own ++ rest) × GivesSteps line number own × AreSteps (number + 1) lines rest

-- the number of the first line that says nothing, from 1
abbrev pub IsFirstBadStep : List (List ℕ) → ℕ → Type 0
IsFirstBadStep lines k =
    (front back : List (List ℕ)) × (line : List ℕ) × (tests : List StepTest) × (lines ≡ front ++ line ∷ back)
    × AreSteps 1 front tests × (k ≡ length front + 1) × SaysNoStep line

-- ---- files

-- a schedule: its file's name, and its tests
pub record StepTests : Type 0 where
  pub name : List ℕ
  pub tests : List StepTest

abbrev pub has_step : StepTests → Bool
has_step file = is_some (slice_get file.tests 0)

-- these are the tests of a file
abbrev pub IsStepsOf : Source → StepTests → Type 0
IsStepsOf source file = (file.name ≡ source.name) × AreSteps 1 (pieces source.text) file.tests

-- a line of one of the files says nothing
abbrev pub HasBadStep : List Source → Type 0
HasBadStep sources =
    (file line : ℕ) × (bad : Source) × (slice_get sources file ≡ Some bad) × IsFirstBadStep (pieces bad.text) line

-- ---- parts, which no public contract cites

abbrev pub steps_of : StepFile → StepTests
steps_of file = record { name = file.name.now; tests = file.tests.items }

-- the test of this line, with these texts of its step and of its expected outcome
abbrev pub IsToldTest : (line : ℕ) → (text told : List ℕ) → StepTest → Type 0
IsToldTest line text told test =
    SpellsStep text test.step × SpellsOutcome told test.wanted × (test.text.items ≡ text) × (test.told.items ≡ told)
    × (test.line ≡ line)

-- the step ends here; after it come the sign and the expected outcome
abbrev pub SpellsStepAt : List ℕ → ℕ → StepTest → Type 0
SpellsStepAt body place test =
    SpellsStep test.text.items test.step × (test.text.items ≡ take place body)
    × (drop place body ≡ codes " = " ++ test.told.items) × SpellsOutcome test.told.items test.wanted
