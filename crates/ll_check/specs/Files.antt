-- What a check of files does, what it writes, and how it ends. own
use Rattle.std.specs.Prelude.{◌≡◌, ◌≢◌, ◌⊎◌, ℕ, ◌+◌, ◌==◌, true, List, [], ◌∷◌, ◌++◌, Some, None, length}
use Rattle.std.specs.Prelude.{Option, bytes_eq, min, slice_get, is_some, if◌then◌else◌}
use Rattle.std.specs.List.{list_any}
use Rattle.std.specs.Option.{option_map_or}
use Rattle.ll_rights.specs.declared.limits.TheConstants.{HISTORY_ENTRIES}
use Rattle.ll_seq.specs.declared.reply.Entry.{Entry}
use Rattle.ll_wire.specs.Pieces.{pieces}
use Rattle.ll_wire.specs.WriterGains.{AppendsFront}
use Rattle.ll_session.specs.declared.calls_run.CallReplies.{CallReplies}
use Rattle.ll_session.specs.declared.fault.RunFault.{RunFault}
use Rattle.ll_session.specs.declared.setup.Setup.{Setup}
use Rattle.ll_session.specs.Run.{MayEnd}
use Rattle.ll_program.specs.Options.{CheckOrder, checked_tree}
use Rattle.ll_program.specs.declared.checked.Checked.{Checked}
use Rattle.ll_program.specs.declared.checked.Checked.TheVariants.{BadLine, Failed, Passed}
use Rattle.ll_program.specs.declared.report.ReportForm.{ReportForm}
use Rattle.ll_program.specs.declared.report.ReportForm.TheVariants as form
use Rattle.ll_program.specs.declared.failure.Failure.{Failure}
use Rattle.ll_program.specs.declared.failure.Failure.TheVariants.{File, NoMemory, Output}
use Rattle.ll_program.specs.Failure.{failure_of}
use Rattle.ll_program.specs.Policy.{IsSetup, Lacks}
use Rattle.ll_check.specs.declared.checks.NamedText.{NamedText}
use Rattle.ll_check.specs.declared.reporter.Style.{Style}
use Rattle.ll_check.specs.declared.reporter.Style.TheVariants.{Quiet, Usual, Verbose, Tap, Junit, Json}
use Rattle.ll_check.specs.declared.reporter.Tally.{Tally}
use Rattle.ll_check.specs.Checks.{AreSections, IsFirstBad, Own, Tests, has_test}
use Rattle.ll_check.specs.Report.{CountsUntested, IsChecked}
use Rattle.ll_check.specs.Styles.{head, tail}

-- ---- files, and their tests

-- a file of checks, or a policy's: its name, and its text
pub record Source : Type 0 where
  pub name : List ℕ
  pub text : List ℕ

abbrev pub source_of : NamedText → Source
source_of file = record { name = file.name.now; text = file.text.items }

-- these are the sections of a file
abbrev pub AreTestsOf : Source → List Tests → Type 0
AreTestsOf source sections = AreSections source.name (pieces source.text) sections

-- these are the sections of the files, one file's after the other's
abbrev pub AreTestsIn : List Source → List Tests → Type 0
AreTestsIn [] files = files ≡ []
AreTestsIn (source ∷ sources) files =
    (own others : List Tests) × (files ≡ own ++ others) × AreTestsOf source own × AreTestsIn sources others

-- a line of one of them says nothing
abbrev pub HasBadLine : List Source → Type 0
HasBadLine sources =
    (file line : ℕ) × (bad : Source) × (slice_get sources file ≡ Some bad)
    × IsFirstBad bad.name (pieces bad.text) line

-- ---- the policy of a section

-- the text of the first of these policies that has this path
abbrev pub policy_in : (policies : List Source) → (path : List ℕ) → Option (List ℕ)
policy_in [] path = None
policy_in (policy ∷ policies) path =
    if bytes_eq policy.name path then Some policy.text else policy_in policies path

-- the text of the policy of a section: that of its own, if it names one, or else that of the words
abbrev pub policy_for : (policy : List ℕ) → (policies : List Source) → Option Own → Option (List ℕ)
policy_for policy policies None = Some policy
policy_for policy policies (Some own) = policy_in policies own.file

-- with one path more, unless it is among them
abbrev pub with_path : (paths : List (List ℕ)) → Option Own → List (List ℕ)
with_path paths None = paths
with_path paths (Some own) = if list_any (λ path. bytes_eq path own.file) paths then paths else paths ++ own.file ∷ []

-- the paths of the sections' own policies, each once, after these
abbrev pub own_paths : (paths : List (List ℕ)) → List Tests → List (List ℕ)
own_paths paths [] = paths
own_paths paths (file ∷ files) = own_paths (with_path paths file.own) files

-- ---- the tree of a section

-- the words for a section, whose own policy and profile take the place of theirs
abbrev pub order_for : CheckOrder → Option Own → CheckOrder
order_for order None = order
order_for order (Some own) = record order { policy = Some own.file; profile = Some own.profile }

-- room in its history for each possible call: the loader's, the profile's, their two connects, and one for each test
abbrev pub room_for : Setup → (tests : ℕ) → ℕ
room_for setup tests =
    min (option_map_or (λ calls. length calls.items) setup.loader 0 + length setup.profile.items + tests + 2)
    HISTORY_ENTRIES

-- the setup of the tree of a section with so many tests, if the policies' files have these texts
abbrev pub IsSetFor : CheckOrder → (policy : List ℕ) → (policies : List Source) → Option Own → (tests : ℕ) → Setup
    → Type 0
IsSetFor order policy policies own tests setup = (text : List ℕ) × (policy_for policy policies own ≡ Some text)
    × IsSetup (checked_tree (order_for order own) (room_for setup tests)) text setup

-- ---- how sections are checked

-- the style of this form; a text's is the given one
abbrev pub styled : Option ReportForm → (text : Style) → Style
styled (Some form.Tap) text = Tap
styled (Some form.Junit) text = Junit
styled (Some form.Json) text = Json
styled _ text = text

abbrev pub style_of : CheckOrder → Style
style_of order = styled order.form (if order.quiet then Quiet else (if order.verbose then Verbose else Usual))

-- a section's tests are made in a tree of its own, with this setup, and are reported and counted
abbrev pub AreTestsChecked : CheckOrder → (policy : List ℕ) → (policies : List Source) → Tests
    → (before after : List ℕ) → Tally → Type 0
AreTestsChecked order policy policies file before after tally =
    (setup : Setup) × (made : CallReplies) × (entries : List Entry)
    × IsSetFor order policy policies file.own (length file.tests) setup
    × IsChecked (style_of order) setup file.name file.section file.tests made entries before after tally

-- and it is counted as failed if it has none
abbrev pub IsFileChecked : CheckOrder → (policy : List ℕ) → (policies : List Source) → Tests
    → (before after : List ℕ) → Tally → Type 0
IsFileChecked order policy policies file before after tally =
    (mid : List ℕ) × (tested : Tally) × AreTestsChecked order policy policies file before mid tested
    × CountsUntested (style_of order) file.name file.section (has_test file) mid after tested tally

-- the sections are checked one after the other, each report follows the one before it, and this is the sum
abbrev pub AreChecked : CheckOrder → (policy : List ℕ) → (policies : List Source) → List Tests
    → (before after : List ℕ) → (sum : Tally) → Type 0
AreChecked order policy policies [] before after sum =
    (after ≡ before) × (sum.passed ≡ 0) × (sum.failed ≡ 0)
AreChecked order policy policies (file ∷ files) before after sum =
    (mid : List ℕ) × (tally rest : Tally) × IsFileChecked order policy policies file before mid tally
    × AreChecked order policy policies files mid after rest
    × (sum.passed ≡ tally.passed + rest.passed) × (sum.failed ≡ tally.failed + rest.failed)

-- passed exactly if no test fails: a section without one counts as a failed one
abbrev pub end_of : (sum : Tally) → Checked
end_of sum = if sum.failed == 0 then Passed else Failed

-- the sections are checked, the reports are written with the sum, and this is the result
abbrev pub Concludes : CheckOrder → (policy : List ℕ) → (policies : List Source) → List Tests → Checked
    → (written : List ℕ) → Type 0
Concludes order policy policies files end written =
    (report : List ℕ) × (sum : Tally) × AreChecked order policy policies files [] report sum
    × (written ≡ head (style_of order) sum ++ report ++ tail (style_of order) sum) × (end ≡ end_of sum)

-- A check of these files, if the policy's file has this text, and the sections' own policies are among these. If a line
-- says nothing, nothing is run or written
abbrev pub IsCheck : CheckOrder → (policy : List ℕ) → (policies sources : List Source) → Checked
    → (written : List ℕ) → Type 0
IsCheck order policy policies sources end written =
    (HasBadLine sources × (end ≡ BadLine) × (written ≡ []))
    ⊎ ((files : List Tests) × AreTestsIn sources files × Concludes order policy policies files end written)

-- ---- why files aren't checked to the end

-- what keeps the tests of a section from being made: a policy is named, and gives no setup; or a fault ends their run
abbrev pub Hinders : CheckOrder → (policy : List ℕ) → (policies : List Source) → Tests → Failure → Type 0
Hinders order policy policies file failure =
    ((text : List ℕ) × (policy_for policy policies file.own ≡ Some text)
    × (is_some (order_for order file.own).policy ≡ true)
    × Lacks (checked_tree (order_for order file.own) HISTORY_ENTRIES) text failure)
    ⊎ ((setup : Setup) × (fault : RunFault) × IsSetFor order policy policies file.own (length file.tests) setup
    × MayEnd setup fault × (failure ≡ failure_of fault))

-- why a section isn't: its own policy isn't there, or that, or memory ran out
abbrev pub IsStopped : CheckOrder → (policy : List ℕ) → (policies : List Source) → Tests → Failure → Type 0
IsStopped order policy policies file failure =
    ((failure ≡ File) × (policy_for policy policies file.own ≡ None))
    ⊎ ((failure ≢ File) × Hinders order policy policies file failure) ⊎ (failure ≡ NoMemory)

-- one of the sections isn't, the report can't be written, or memory ran out
abbrev pub MayStop : CheckOrder → (policy : List ℕ) → (policies : List Source) → List Tests → Failure → Type 0
MayStop order policy policies files failure =
    ((index : ℕ) × (file : Tests) × (slice_get files index ≡ Some file)
    × IsStopped order policy policies file failure)
    ⊎ (failure ≡ Output) ⊎ (failure ≡ NoMemory)

-- why these files aren't
abbrev pub MayFail : CheckOrder → (policy : List ℕ) → (policies sources : List Source) → Failure → Type 0
MayFail order policy policies sources failure =
    ((files : List Tests) × AreTestsIn sources files × MayStop order policy policies files failure)
    ⊎ (failure ≡ NoMemory)

-- what files that aren't checked to the end leave written: nothing, or a prefix of a report if the output fails
abbrev pub HasBegun : (IsReport : Checked → List ℕ → Type 0) → (out out' : Option (List ℕ)) → Failure → Type 0
HasBegun IsReport out out' failure =
    (out' ≡ out)
    ⊎ ((failure ≡ Output) × (end : Checked) × (written : List ℕ) × IsReport end written
    × AppendsFront out out' written)
