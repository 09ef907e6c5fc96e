-- Files of checks: the sections and tests that their lines spell. own
use Rattle.std.specs.Prelude.{◌≡◌, ℕ, ◌+◌, ◌==◌, ◌⊎◌, List, [], ◌∷◌, ◌++◌, length, slice_get, take, drop, Some, codes}
use Rattle.std.specs.Prelude.{◌&&◌, ◌||◌, ◌≤◌, Bool, true, false, Option, None, if◌then◌else◌, is_some, map}
use Rattle.std.specs.Prelude.{String, nat_le, not, option_map, string_bytes}
use Rattle.std.specs.List.{list_all, list_any}
use Rattle.std.specs.BTreeSet.{BTreeSet, contains_text}
use Rattle.std.specs.Option.{option_map_or}
use Rattle.std.specs.declared.alloc.Global.{Global}
use Rattle.std.specs.Path.{rsplit_once}
use Rattle.std.specs.Str.{IsUtf8, bytes_eq}
use Rattle.ll_session.specs.declared.client_call.ClientCall.{ClientCall}
use Rattle.ll_program.specs.Comments.{body_of, is_silent}
use Rattle.ll_wire.specs.Grammar.{SpellsCommand}
use Rattle.ll_check.specs.declared.own_policy.OwnPolicy.{OwnPolicy}
use Rattle.ll_check.specs.declared.check_text.ReadFile.{ReadFile}
use Rattle.ll_check.specs.declared.check_text.ReadLines.{ReadLines}
use Rattle.ll_check.specs.declared.check_text.Test.{Test}
use Rattle.ll_check.specs.declared.wanted.Wanted.TheVariants.{Success}
use Rattle.ll_check.specs.Possible.{CanCome}
use Rattle.ll_check.specs.Wanted.{SpellsWanted}

-- a command as in a script, of any client that a session may have
abbrev pub SpellsCall : List ℕ → ClientCall → Type 0
SpellsCall text made = SpellsCommand (text ++ 10 ∷ []) made.client made.call

-- a command alone, which must succeed; or a command, ` = ` and the expected reply
abbrev pub SpellsTest : List ℕ → Test → Type 0
SpellsTest body test =
    (SpellsCall body test.call × (test.wanted ≡ Success))
    ⊎ ((command text : List ℕ) × (body ≡ command ++ (codes " = " ++ text)) × SpellsCall command test.call
    × SpellsWanted text test.wanted)

-- whatever the tree, the command's reply isn't as expected
abbrev pub IsVain : Test → Type 0
IsVain test = CanCome test.call.call test.wanted → ⊥

-- printed ASCII without brackets (91 and 93)
abbrev pub is_of_name : ℕ → Bool
is_of_name b = nat_le 32 b && nat_le b 126 && not (b == 91) && not (b == 93)

-- a name has more than spaces
abbrev pub is_name : List ℕ → Bool
is_name name = list_all is_of_name name && list_any (λ b. not (b == 32)) name

-- a section begins: `[NAME]`
abbrev pub SpellsSection : List ℕ → List ℕ → Type 0
SpellsSection body name = (is_name name ≡ true) × (body ≡ codes "[" ++ (name ++ codes "]"))

-- a section's own policy is named, and one of its profiles: `@policy FILE PROFILE`. The last word is PROFILE, and FILE
-- is all before
abbrev pub SpellsPolicy : List ℕ → (file profile : List ℕ) → Type 0
SpellsPolicy body file profile =
    (text : List ℕ) × (body ≡ codes "@policy " ++ text) × IsUtf8 text × (rsplit_once 32 text ≡ Some (file, profile))
    × (1 ≤ length file) × (1 ≤ length profile)

-- ---- sections

-- a section's own policy: the number of the line that names it, from 1; its path, as it is opened; and the profile
pub record Own : Type 0 where
  pub line : ℕ
  pub file : List ℕ
  pub profile : List ℕ

-- a section of a file: the file's name, its own name (nothing for what precedes the first line `[NAME]`), its own
-- policy, if it names one, and its tests
pub record Tests : Type 0 where
  pub name : List ℕ
  pub section : List ℕ
  pub own : Option Own
  pub tests : List Test

abbrev pub has_test : Tests → Bool
has_test file = is_some (slice_get file.tests 0)

abbrev pub has_own : Tests → Bool
has_own file = is_some file.own

-- nothing but the section's name has come
abbrev pub is_at_head : Tests → Bool
is_at_head file = not (has_test file) && not (has_own file)

-- all of a name up to and with its last slash (47)
abbrev pub folder_of : List ℕ → List ℕ
folder_of name = option_map_or (λ (cut : List ℕ × List ℕ). cut.0 ++ codes "/") (rsplit_once 47 name) []

-- it begins with a slash
abbrev pub is_rooted : List ℕ → Bool
is_rooted [] = false
is_rooted (b ∷ name) = b == 47

-- the path of a file that a file of checks names: it is of the same folder, unless it begins with a slash
abbrev pub placed : (checks file : List ℕ) → List ℕ
placed checks file = if is_rooted file then file else folder_of checks ++ file

-- the line with this number, in a file with this name, names this policy
abbrev pub NamesOwn : (body : List ℕ) → (number : ℕ) → (checks : List ℕ) → Own → Type 0
NamesOwn body number checks own =
    (file : List ℕ) × SpellsPolicy body file own.profile × (own.line ≡ number) × (own.file ≡ placed checks file)

-- the sections of the lines so far: those before the last, and the last
pub record Reading : Type 0 where
  pub done : List Tests
  pub last : Tests

abbrev pub at_start : (file : List ℕ) → Reading
at_start file = record { done = []; last = record { name = file; section = []; own = None; tests = [] } }

abbrev pub with_test : Reading → Test → Reading
with_test r test = record r { last = record r.last { tests = r.last.tests ++ test ∷ [] } }

abbrev pub with_own : Reading → Own → Reading
with_own r own = record r { last = record r.last { own = Some own } }

-- without a name, a policy and a test
abbrev pub is_blank : Tests → Bool
is_blank file = not (is_some (slice_get file.section 0)) && is_at_head file

-- a new section. What precedes the first one is left out if it has neither a policy nor a test
abbrev pub with_section : Reading → (section : List ℕ) → Reading
with_section r section = record {
  done = if is_blank r.last then r.done else r.done ++ r.last ∷ [];
  last = record { name = r.last.name; section = section; own = None; tests = [] };
}

abbrev pub all_of : Reading → List Tests
all_of r = r.done ++ r.last ∷ []

abbrev pub is_section : List ℕ → Tests → Bool
is_section section file = bytes_eq file.section section

-- a section so far has this name
abbrev pub has_section : Reading → (section : List ℕ) → Bool
has_section r section = list_any (is_section section) r.done || is_section section r.last

-- ---- lines

-- the line is neither silent nor a test nor the beginning of a section nor names a policy; or a vain test; or a
-- section's name once more; or it names a policy elsewhere than at a section's head
abbrev pub SaysNothing : List ℕ → (before : Reading) → Type 0
SaysNothing line before =
    (is_silent (body_of line) ≡ false)
    × ((((test : Test) → SpellsTest (body_of line) test → ⊥)
    × ((section : List ℕ) → SpellsSection (body_of line) section → ⊥)
    × ((file profile : List ℕ) → SpellsPolicy (body_of line) file profile → ⊥))
    ⊎ ((test : Test) × SpellsTest (body_of line) test × IsVain test)
    ⊎ ((section : List ℕ) × SpellsSection (body_of line) section × (has_section before section ≡ true))
    ⊎ ((file profile : List ℕ) × SpellsPolicy (body_of line) file profile × (is_at_head before.last ≡ false)))

-- the line with this number is silent; or adds its test, which may pass; or begins a section, whose name is new; or
-- names the policy of a section at whose head it stands
abbrev pub TakesLine : (line : List ℕ) → (number : ℕ) → (before after : Reading) → Type 0
TakesLine line number before after =
    ((is_silent (body_of line) ≡ true) × (after ≡ before))
    ⊎ ((test : Test) × SpellsTest (body_of line) test × (test.line ≡ number) × CanCome test.call.call test.wanted
    × (after ≡ with_test before test))
    ⊎ ((section : List ℕ) × SpellsSection (body_of line) section × (has_section before section ≡ false)
    × (after ≡ with_section before section))
    ⊎ ((own : Own) × NamesOwn (body_of line) number before.last.name own × (is_at_head before.last ≡ true)
    × (after ≡ with_own before own))

-- the lines, the first of which has this number, are read one after the other
abbrev pub AreRead : (number : ℕ) → (lines : List (List ℕ)) → (before after : Reading) → Type 0
AreRead number [] before after = after ≡ before
AreRead number (line ∷ lines) before after =
    (mid : Reading) × TakesLine line number before mid × AreRead (number + 1) lines mid after

-- these are the sections of the file with this name and these lines
abbrev pub AreSections : (file : List ℕ) → (lines : List (List ℕ)) → List Tests → Type 0
AreSections file lines sections =
    (end : Reading) × AreRead 1 lines (at_start file) end × (sections ≡ all_of end)

-- the number of its first line that says nothing, from 1
abbrev pub IsFirstBad : (file : List ℕ) → List (List ℕ) → ℕ → Type 0
IsFirstBad file lines k =
    (front back : List (List ℕ)) × (line : List ℕ) × (before : Reading) × (lines ≡ front ++ line ∷ back)
    × AreRead 1 front (at_start file) before × (k ≡ length front + 1) × SaysNothing line before

-- ---- parts, which no public contract cites

abbrev pub own_of : OwnPolicy → Own
own_of own = record { line = own.line; file = string_bytes own.file; profile = string_bytes own.profile }

abbrev pub tests_of : ReadFile → Tests
tests_of file = record {
  name = file.name.now;
  section = file.section.items;
  own = option_map own_of file.own;
  tests = file.checks.tests.items;
}

abbrev pub reading_of : ReadLines → Reading
reading_of r = record { done = map tests_of r.done.items; last = tests_of r.last }

-- the names are those of the sections
abbrev pub AreNamed : (names : BTreeSet (String Global)) → Reading → Type 0
AreNamed names r =
    (section : List ℕ) → is_name section ≡ true → contains_text names section ≡ has_section r section

-- the command ends here; after it come the sign and the expected reply
abbrev pub SpellsAt : List ℕ → ℕ → Test → Type 0
SpellsAt body place test =
    SpellsCall (take place body) test.call × (text : List ℕ) × (drop place body ≡ codes " = " ++ text)
    × SpellsWanted text test.wanted
