-- What the check of a section writes, and how its tests are judged. own
use Rattle.std.specs.Prelude.{◌≡◌, ◌↔◌, IsTrue, ℕ, ◌+◌, Bool, true, false, not, List, [], ◌++◌, codes, decimal, map}
use Rattle.std.specs.Prelude.{◌==◌, if◌then◌else◌, length}
use Rattle.std.specs.List.{AllByRecursion, count_by, flat_map}
use Rattle.ll_seq.specs.declared.reply.Entry.{Entry}
use Rattle.ll_seq.specs.declared.reply.Reply.{Reply}
use Rattle.ll_wire.specs.Grammar.{reply_line}
use Rattle.ll_wire.specs.Terminal.{escaped}
use Rattle.ll_session.specs.CallsRun.{Makes, call_line}
use Rattle.ll_session.specs.declared.calls_run.CallReplies.{CallReplies}
use Rattle.ll_session.specs.declared.calls_run.CallReplies.TheVariants.{Answered, Refused}
use Rattle.ll_session.specs.declared.setup.Setup.{Setup}
use Rattle.ll_check.specs.declared.reporter.Style.{Style}
use Rattle.ll_check.specs.declared.reporter.Style.TheVariants.{Quiet, Usual, Verbose, Tap, Junit, Json}
use Rattle.ll_check.specs.declared.reporter.Tally.{Tally}
use Rattle.ll_check.specs.declared.check_text.Test.{Test}
use Rattle.ll_check.specs.declared.wanted.Wanted.{Wanted}
use Rattle.ll_program.specs.Comments.{body_of}
use Rattle.ll_check.specs.Styles.{Texts, json_test, junit_test, tap_test}
use Rattle.ll_check.specs.Wanted.{Satisfies, wanted_text}

-- ---- verdicts

-- a test, its reply, and whether it passes
pub record Judged : Type 0 where
  pub test : Test
  pub reply : Reply
  pub passes : Bool

abbrev pub judged : Test → Reply → Bool → Judged
judged test reply passes = record { test = test; reply = reply; passes = passes }

-- it passes exactly if the reply is as expected
abbrev pub IsJudged : Judged → Type 0
IsJudged it = IsTrue it.passes ↔ Satisfies it.test.wanted it.reply

-- these are the verdicts on the tests, by these replies
pub record AreJudged (tests : List Test) (replies : List Reply) (verdicts : List Judged) : Type 0 where
  pub of_tests : map (λ it. it.test) verdicts ≡ tests
  pub by_replies : map (λ it. it.reply) verdicts ≡ replies
  pub each : AllByRecursion IsJudged verdicts

-- how many tests pass, and how many don't
abbrev pub passed : List Judged → ℕ
passed verdicts = count_by (λ it. it.passes) verdicts

abbrev pub failed : List Judged → ℕ
failed verdicts = count_by (λ it. not it.passes) verdicts

-- ---- texts

-- the place of a test, and its command
abbrev pub heading : List ℕ → Test → List ℕ
heading file test = file ++ codes ":" ++ decimal test.line ++ codes ": " ++ call_line test.call

-- the name of its section, if that has one
abbrev pub label : (section : List ℕ) → List ℕ
label section = if length section == 0 then [] else codes "[" ++ section ++ codes "] "

-- the same with the name of its section
abbrev pub titled : (file section : List ℕ) → Test → List ℕ
titled file section test =
    file ++ codes ":" ++ decimal test.line ++ codes ": " ++ label section ++ call_line test.call

abbrev pub expected : Wanted → List ℕ
expected wanted = codes "expected " ++ (wanted_text wanted ++ codes "\n")

-- a test as lines of text
abbrev pub plain : (file section : List ℕ) → Judged → List ℕ
plain file section it =
    titled file section it.test ++ (if it.passes then [] else expected it.test.wanted)
    ++ (codes "got " ++ reply_line it.reply)

-- a test as texts, without line feeds; the file's name is printed
abbrev pub texts : (file section : List ℕ) → Judged → Texts
texts file section it =
    record {
      file = escaped file;
      section = section;
      line = decimal it.test.line;
      command = body_of (call_line it.test.call);
      wanted = body_of (wanted_text it.test.wanted ++ codes "\n");
      got = body_of (reply_line it.reply);
      passes = it.passes;
    }

abbrev pub shown : Style → (file section : List ℕ) → Judged → List ℕ
shown Quiet file section it = []
shown Usual file section it = if it.passes then [] else plain file section it
shown Verbose file section it = plain file section it
shown Tap file section it = tap_test (texts file section it)
shown Junit file section it = junit_test (texts file section it)
shown Json file section it = json_test (texts file section it)

-- ---- failed tests that no line spells

-- a failed test of this name as texts, at line 0
abbrev pub unspelled : (file section name wanted got : List ℕ) → Texts
unspelled file section name wanted got =
    record {
      file = escaped file;
      section = section;
      line = codes "0";
      command = name;
      wanted = wanted;
      got = got;
      passes = false;
    }

-- a refused profile as texts: a test `profile`, which isn't accepted. What is told of it is free
abbrev pub refused_texts : (file section told : List ℕ) → Texts
refused_texts file section told = unspelled file section (codes "profile") (codes "accepted") (body_of told)

abbrev pub refused_line : (file section told : List ℕ) → List ℕ
refused_line file section told = file ++ codes ": " ++ label section ++ codes "profile refused: " ++ told

abbrev pub shown_refused : Style → (file section told : List ℕ) → List ℕ
shown_refused Quiet file section told = []
shown_refused Usual file section told = refused_line file section told
shown_refused Verbose file section told = refused_line file section told
shown_refused Tap file section told = tap_test (refused_texts file section told)
shown_refused Junit file section told = junit_test (refused_texts file section told)
shown_refused Json file section told = json_test (refused_texts file section told)

-- a section without a test as texts: a test `tests`
abbrev pub untested_texts : (file section : List ℕ) → Texts
untested_texts file section = unspelled file section (codes "tests") (codes "some") (codes "none")

-- it is shown to other programs
abbrev pub shown_untested : Style → (file section : List ℕ) → List ℕ
shown_untested Quiet file section = []
shown_untested Usual file section = []
shown_untested Verbose file section = []
shown_untested Tap file section = tap_test (untested_texts file section)
shown_untested Junit file section = junit_test (untested_texts file section)
shown_untested Json file section = json_test (untested_texts file section)

-- it counts as one failed test more
abbrev pub CountsUntested : Style → (file section : List ℕ) → (is_tested : Bool) → (before after : List ℕ)
    → (tested tally : Tally) → Type 0
CountsUntested style file section true before after tested tally = (after ≡ before) × (tally ≡ tested)
CountsUntested style file section false before after tested tally =
    (after ≡ before ++ shown_untested style file section) × (tally.passed ≡ tested.passed)
    × (tally.failed ≡ tested.failed + 1)

-- ---- a whole section

-- the tests are judged by their replies, the report on them is appended, and this many pass and fail
abbrev pub Judges : Style → (file section : List ℕ) → List Test → List Reply → (before after : List ℕ) → Tally
    → Type 0
Judges style file section tests replies before after tally =
    (verdicts : List Judged) × AreJudged tests replies verdicts
    × (after ≡ before ++ flat_map (shown style file section) verdicts)
    × (tally.passed ≡ passed verdicts) × (tally.failed ≡ failed verdicts)

-- The report on tests after their calls were made. A refused profile is reported and counts as one failed test
abbrev pub Tells : Style → (file section : List ℕ) → List Test → CallReplies → (before after : List ℕ) → Tally
    → Type 0
Tells style file section tests (Answered replies) before after tally =
    Judges style file section tests replies.items before after tally
Tells style file section tests (Refused refusal) before after tally =
    (told : List ℕ) × (after ≡ before ++ shown_refused style file section told) × (tally.passed ≡ 0)
    × (tally.failed ≡ 1)

-- the tests' calls are made with this setup, which leaves these entries, and the tests are reported and counted
abbrev pub IsChecked : Style → Setup → (file section : List ℕ) → List Test → CallReplies → List Entry
    → (before after : List ℕ) → Tally → Type 0
IsChecked style setup file section tests made entries before after tally =
    Makes setup (map (λ test. test.call) tests) made entries × Tells style file section tests made before after tally
