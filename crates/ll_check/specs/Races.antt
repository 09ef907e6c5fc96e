-- What a check of schedules does, what it writes, and how it ends. own
use Rattle.std.specs.Prelude.{◌≡◌, ◌↔◌, ◌⊎◌, ℕ, ◌+◌, Bool, true, not, List, [], ◌∷◌, ◌++◌, IsTrue, codes}
use Rattle.std.specs.Prelude.{decimal, if◌then◌else◌, length, max, min, unwrap_or}
use Rattle.std.specs.List.{AllZip}
use Rattle.ll_rights.specs.declared.limits.TheConstants.{HISTORY_ENTRIES}
use Rattle.ll_laws.specs.World.{World}
use Rattle.ll_steps.specs.Tells.{Does, outcome_line}
use Rattle.ll_steps.specs.Told.{opened}
use Rattle.ll_steps.specs.declared.report.Report.{Report}
use Rattle.ll_steps.specs.declared.setup.WorldSetup.{WorldSetup}
use Rattle.ll_wire.specs.Terminal.{escaped}
use Rattle.ll_program.specs.Comments.{body_of}
use Rattle.ll_program.specs.Options.{CheckOrder}
use Rattle.ll_program.specs.declared.checked.Checked.{Checked}
use Rattle.ll_program.specs.declared.checked.Checked.TheVariants.{BadLine}
use Rattle.ll_check.specs.declared.reporter.Style.{Style}
use Rattle.ll_check.specs.declared.reporter.Style.TheVariants.{Quiet, Usual, Verbose, Tap, Junit, Json}
use Rattle.ll_check.specs.declared.reporter.Tally.{Tally}
use Rattle.ll_check.specs.declared.steps.StepTest.{StepTest}
use Rattle.ll_check.specs.Files.{Source, end_of, style_of}
use Rattle.ll_check.specs.Outcomes.{Meets}
use Rattle.ll_check.specs.Report.{CountsUntested}
use Rattle.ll_check.specs.Steps.{HasBadStep, IsStepsOf, StepTests, has_step}
use Rattle.ll_check.specs.Styles.{Texts, head, json_test, junit_test, tail, tap_test}

-- ---- verdicts

-- a test, the line of the outcome that came, and whether it passes
pub record JudgedStep : Type 0 where
  pub test : StepTest
  pub got : List ℕ
  pub passes : Bool

abbrev pub judged_step : StepTest → (got : List ℕ) → Bool → JudgedStep
judged_step test got passes = record { test = test; got = got; passes = passes }

-- the test's step is made in this world, and it passes exactly if the outcome is as expected
abbrev pub IsStepMade : World → JudgedStep → World → Type 0
IsStepMade w it w' =
    (report : Report) × Does w it.test.step report w' × (it.got ≡ outcome_line w'.history report)
    × (IsTrue it.passes ↔ Meets w'.history it.test.wanted report)

-- ---- texts

-- the place of a test, and its step
abbrev pub titled_step : (file : List ℕ) → StepTest → List ℕ
titled_step file test = file ++ codes ":" ++ decimal test.line ++ codes ": " ++ test.text.items ++ codes "\n"

-- a test as lines of text
abbrev pub plain_step : (file : List ℕ) → JudgedStep → List ℕ
plain_step file it =
    titled_step file it.test
    ++ (if it.passes then [] else codes "expected " ++ (it.test.told.items ++ codes "\n"))
    ++ (codes "got " ++ it.got)

-- a test as texts, without line feeds; the file's name is printed
abbrev pub step_texts : (file : List ℕ) → JudgedStep → Texts
step_texts file it =
    record {
      file = escaped file;
      section = [];
      line = decimal it.test.line;
      command = it.test.text.items;
      wanted = it.test.told.items;
      got = body_of it.got;
      passes = it.passes;
    }

abbrev pub shown_step : Style → (file : List ℕ) → JudgedStep → List ℕ
shown_step Quiet file it = []
shown_step Usual file it = if it.passes then [] else plain_step file it
shown_step Verbose file it = plain_step file it
shown_step Tap file it = tap_test (step_texts file it)
shown_step Junit file it = junit_test (step_texts file it)
shown_step Json file it = json_test (step_texts file it)

-- ---- a schedule

abbrev pub one_if : Bool → ℕ
one_if b = if b then 1 else 0

-- the tests are made one after the other, each in the world that the one before it left, and are reported and counted
abbrev pub RunsSteps : Style → (file : List ℕ) → World → List StepTest → (before after : List ℕ) → Tally → World
    → Type 0
RunsSteps style file w [] before after tally w' =
    (after ≡ before) × (tally.passed ≡ 0) × (tally.failed ≡ 0) × (w' ≡ w)
RunsSteps style file w (test ∷ tests) before after tally w' =
    (it : JudgedStep) × (v : World) × (rest : Tally) × (it.test ≡ test) × IsStepMade w it v
    × RunsSteps style file v tests (before ++ shown_step style file it) after rest w'
    × (tally.passed ≡ one_if it.passes + rest.passed) × (tally.failed ≡ one_if (not it.passes) + rest.failed)

-- the tree of a schedule with this many tests: each may have an entry in the history
pub record IsRaceSetup (order : CheckOrder) (tests : ℕ) (setup : WorldSetup) : Type 0 where
  pub rules : setup.rules ≡ record { abi = unwrap_or order.level 3; copies = true }
  pub nodes : setup.nodes ≡ order.nodes
  pub history : setup.history ≡ min (max tests 1) HISTORY_ENTRIES

-- the tests are made in a tree of their own, and are reported and counted
abbrev pub AreStepsRun : CheckOrder → StepTests → (before after : List ℕ) → Tally → Type 0
AreStepsRun order file before after tally =
    (setup : WorldSetup) × (last : World) × IsRaceSetup order (length file.tests) setup
    × RunsSteps (style_of order) file.name (opened setup) file.tests before after tally last

-- and a schedule without a test is counted as failed
abbrev pub IsRun : CheckOrder → StepTests → (before after : List ℕ) → Tally → Type 0
IsRun order file before after tally =
    (mid : List ℕ) × (tested : Tally) × AreStepsRun order file before mid tested
    × CountsUntested (style_of order) file.name [] (has_step file) mid after tested tally

-- ---- all schedules

-- the schedules are run one after the other, each report follows the one before it, and this is the sum
abbrev pub AreRun : CheckOrder → List StepTests → (before after : List ℕ) → (sum : Tally) → Type 0
AreRun order [] before after sum = (after ≡ before) × (sum.passed ≡ 0) × (sum.failed ≡ 0)
AreRun order (file ∷ files) before after sum =
    (mid : List ℕ) × (tally rest : Tally) × IsRun order file before mid tally × AreRun order files mid after rest
    × (sum.passed ≡ tally.passed + rest.passed) × (sum.failed ≡ tally.failed + rest.failed)

-- the schedules are run, the reports are written with the sum, and this is the result
abbrev pub ConcludesRaces : CheckOrder → List StepTests → Checked → (written : List ℕ) → Type 0
ConcludesRaces order files end written =
    (report : List ℕ) × (sum : Tally) × AreRun order files [] report sum
    × (written ≡ head (style_of order) sum ++ report ++ tail (style_of order) sum) × (end ≡ end_of sum)

-- a check of these schedules. If a line says nothing, nothing is run or written
abbrev pub IsRaceCheck : CheckOrder → List Source → Checked → (written : List ℕ) → Type 0
IsRaceCheck order sources end written =
    (HasBadStep sources × (end ≡ BadLine) × (written ≡ []))
    ⊎ ((files : List StepTests) × AllZip IsStepsOf sources files × ConcludesRaces order files end written)
