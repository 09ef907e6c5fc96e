-- How a test is written for other programs. TAP 14; JUnit's XML as CI systems read it; JSON, RFC 8259
use Rattle.std.specs.Prelude.{ℕ, ◌+◌, ◌==◌, Bool, List, [], ◌∷◌, ◌++◌, codes, decimal, if◌then◌else◌, length}
use Rattle.std.specs.List.{flat_map}
use Rattle.ll_check.specs.declared.reporter.Style.{Style}
use Rattle.ll_check.specs.declared.reporter.Style.TheVariants.{Tap, Junit, Json}
use Rattle.ll_check.specs.declared.reporter.Tally.{Tally}
use Rattle.ll_check.specs.declared.styles.Syntax.{Syntax}
use Rattle.ll_check.specs.declared.styles.Syntax.TheVariants as syntax
use Rattle.ll_check.specs.declared.styles.TestTexts.{TestTexts}

-- A test that was made, as texts of printed characters: the names of its file and its section (nothing if that has
-- none), its line there, its command, the expected reply, and the one that came
pub record Texts : Type 0 where
  pub file : List ℕ
  pub section : List ℕ
  pub line : List ℕ
  pub command : List ℕ
  pub wanted : List ℕ
  pub got : List ℕ
  pub passes : Bool

-- ---- characters that mean something

-- a backslash (92), and the sign of a directive (35)
abbrev pub tap_byte : ℕ → List ℕ
tap_byte b = if b == 92 then codes "\\\\" else if b == 35 then codes "\\#" else b ∷ []

-- a backslash, and a quote (34)
abbrev pub json_byte : ℕ → List ℕ
json_byte b = if b == 92 then codes "\\\\" else if b == 34 then codes "\\\"" else b ∷ []

-- an ampersand (38), a quote, and what begins (60) and ends (62) a tag
abbrev pub xml_byte : ℕ → List ℕ
xml_byte b =
    if b == 38 then codes "&amp;"
    else if b == 34 then codes "&quot;"
    else if b == 60 then codes "&lt;"
    else if b == 62 then codes "&gt;"
    else b ∷ []

abbrev pub byte_in : Syntax → ℕ → List ℕ
byte_in syntax.Tap b = tap_byte b
byte_in syntax.Json b = json_byte b
byte_in syntax.Xml b = xml_byte b

abbrev pub text_in : Syntax → List ℕ → List ℕ
text_in kind text = flat_map (byte_in kind) text

-- ---- tests

abbrev pub tap_got : Texts → List ℕ
tap_got it = text_in syntax.Json it.got ++ codes "\"\n  ...\n"

-- why a test fails, as YAML
abbrev pub tap_reason : Texts → List ℕ
tap_reason it =
    if it.passes then []
    else codes "  ---\n  expected: \"" ++ (text_in syntax.Json it.wanted ++ (codes "\"\n  got: \"" ++ tap_got it))

abbrev pub tap_verdict : (passes : Bool) → List ℕ
tap_verdict passes = if passes then codes "ok - " else codes "not ok - "

abbrev pub tap_section : (section : List ℕ) → List ℕ
tap_section section = if length section == 0 then [] else codes "[" ++ (text_in syntax.Tap section ++ codes "] ")

abbrev pub tap_end : Texts → List ℕ
tap_end it = text_in syntax.Tap it.command ++ (codes "\n" ++ tap_reason it)

abbrev pub tap_test : Texts → List ℕ
tap_test it =
    tap_verdict it.passes ++ (text_in syntax.Tap it.file
    ++ (codes ":" ++ (it.line ++ (codes ": " ++ (tap_section it.section ++ tap_end it)))))

abbrev pub junit_got : Texts → List ℕ
junit_got it = text_in syntax.Xml it.got ++ codes "\"/></testcase>\n"

abbrev pub junit_end : Texts → List ℕ
junit_end it =
    if it.passes then codes "\"/>\n"
    else codes "\"><failure message=\"expected " ++ (text_in syntax.Xml it.wanted ++ (codes ", got " ++ junit_got it))

abbrev pub junit_section : (section : List ℕ) → List ℕ
junit_section section = if length section == 0 then [] else codes " [" ++ (text_in syntax.Xml section ++ codes "]")

abbrev pub junit_test : Texts → List ℕ
junit_test it =
    codes "<testcase classname=\"" ++ (text_in syntax.Xml it.file ++ (junit_section it.section
    ++ (codes "\" name=\"" ++ (it.line ++ (codes ": " ++ (text_in syntax.Xml it.command ++ junit_end it))))))

abbrev pub json_verdict : (passes : Bool) → List ℕ
json_verdict passes = if passes then codes "\", \"passes\": true}\n" else codes "\", \"passes\": false}\n"

abbrev pub json_end : Texts → List ℕ
json_end it =
    codes "\", \"expected\": \"" ++ (text_in syntax.Json it.wanted
    ++ (codes "\", \"got\": \"" ++ (text_in syntax.Json it.got ++ json_verdict it.passes)))

abbrev pub json_section : (section : List ℕ) → List ℕ
json_section section =
    if length section == 0 then [] else codes "\", \"section\": \"" ++ text_in syntax.Json section

-- an object on a line of its own
abbrev pub json_test : Texts → List ℕ
json_test it =
    codes "{\"file\": \"" ++ (text_in syntax.Json it.file ++ (json_section it.section
    ++ (codes "\", \"line\": " ++ (it.line ++ (codes ", \"command\": \"" ++ (text_in syntax.Json it.command
    ++ json_end it))))))

abbrev pub test_in : Syntax → Texts → List ℕ
test_in syntax.Tap it = tap_test it
test_in syntax.Json it = json_test it
test_in syntax.Xml it = junit_test it

-- ---- what stands around the tests, with how many pass and fail

abbrev pub sum_line : Tally → List ℕ
sum_line sum = decimal sum.passed ++ codes " passed, " ++ decimal sum.failed ++ codes " failed\n"

abbrev pub tap_head : (all : ℕ) → List ℕ
tap_head all = codes "TAP version 14\n1.." ++ (decimal all ++ codes "\n")

abbrev pub junit_head : (all failed : ℕ) → List ℕ
junit_head all failed =
    codes "<?xml version=\"1.0\" encoding=\"UTF-8\"?>\n<testsuites>\n" ++ (codes "<testsuite name=\"check\" tests=\""
    ++ (decimal all ++ (codes "\" failures=\"" ++ (decimal failed ++ codes "\">\n"))))

abbrev pub json_sums : Tally → List ℕ
json_sums sum =
    codes "{\"passed\": " ++ (decimal sum.passed ++ (codes ", \"failed\": " ++ (decimal sum.failed ++ codes "}\n")))

abbrev pub head : Style → Tally → List ℕ
head Tap sum = tap_head (sum.passed + sum.failed)
head Junit sum = junit_head (sum.passed + sum.failed) sum.failed
head _ sum = []

abbrev pub tail : Style → Tally → List ℕ
tail Tap sum = []
tail Junit sum = codes "</testsuite>\n</testsuites>\n"
tail Json sum = json_sums sum
tail _ sum = sum_line sum

-- ---- parts, which no public contract cites

abbrev pub texts_of : TestTexts → Texts
texts_of it =
    record {
      file = it.file.now;
      section = it.section.now;
      line = it.line.now;
      command = it.command.now;
      wanted = it.wanted.now;
      got = it.got.now;
      passes = it.passes;
    }
