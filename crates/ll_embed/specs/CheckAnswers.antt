-- What a check of a text answers. own
use Rattle.std.specs.Prelude.{◌≡◌, ◌≢◌, ◌⊎◌, ◌≤◌, ℕ, true, false, ◌==◌, List, [], ◌∷◌, Option, Some, None, codes}
use Rattle.std.specs.Prelude.{if◌then◌else◌}
use Rattle.std.specs.Str.{IsUtf8}
use Rattle.ll_rights.specs.declared.limits.TheConstants.{TREE_NODES}
use Rattle.ll_program.specs.Failure.{status_by}
use Rattle.ll_program.specs.Options.{CheckOrder, fits_check}
use Rattle.ll_program.specs.declared.checked.Checked.{Checked}
use Rattle.ll_program.specs.declared.checked.Checked.TheVariants.{BadLine}
use Rattle.ll_program.specs.declared.conclusion.Conclusion.TheVariants as conclusion
use Rattle.ll_program.specs.declared.failure.Failure.{Failure}
use Rattle.ll_program.specs.declared.failure.Failure.TheVariants.{File}
use Rattle.ll_program.specs.declared.report.ReportForm.{ReportForm}
use Rattle.ll_program.specs.declared.report.ReportForm.TheVariants.{Json, Junit, Tap, Text}
use Rattle.ll_check.specs.Files.{IsCheck, MayFail, Source}
use Rattle.ll_embed.specs.Answers.{fault_at, status_of}
use Rattle.ll_embed.specs.declared.fault.Fault.{Fault}
use Rattle.ll_embed.specs.declared.fault.Fault.TheVariants.{Misfit, NoMemory, OwnPolicy}
use Rattle.ll_embed.specs.declared.file_check.CheckGiven.{CheckGiven}

-- the numbers and texts of a check: those that set its trees up, the form of its report, a file's name and its text
pub record CheckAsked : Type 0 where
  pub level : ℕ
  pub nodes : ℕ
  pub form : ℕ
  pub policy : List ℕ
  pub profile : List ℕ
  pub name : List ℕ
  pub checks : List ℕ

abbrev pub asked_in : CheckGiven → CheckAsked
asked_in g = record {
  level = g.level;
  nodes = g.nodes;
  form = g.form;
  policy = g.policy.now;
  profile = g.profile.now;
  name = g.name.now;
  checks = g.checks.now;
}

-- the level 0 isn't given
abbrev pub level_given : ℕ → Option ℕ
level_given level = if level == 0 then None else Some level

-- an empty text isn't given
abbrev pub text_given : List ℕ → Option (List ℕ)
text_given [] = None
text_given (b ∷ text) = Some (b ∷ text)

-- a name for the policy's file
abbrev pub policy_given : (policy : List ℕ) → Option (List ℕ)
policy_given [] = None
policy_given (b ∷ policy) = Some (codes "policy")

-- the forms from 3 on; 1 and 2 are a quiet and a verbose text
abbrev pub form_by : ℕ → ReportForm
form_by form = if form == 3 then Tap else if form == 4 then Junit else if form == 5 then Json else Text

-- the program's words that ask for the same
abbrev pub order_of : CheckAsked → CheckOrder
order_of a = record {
  files = a.name ∷ [];
  nodes = a.nodes;
  level = level_given a.level;
  policy = policy_given a.policy;
  profile = text_given a.profile;
  quiet = a.form == 1;
  verbose = a.form == 2;
  form = Some (form_by a.form);
  schedule = false;
}

abbrev pub source_in : CheckAsked → Source
source_in a = record { name = a.name; text = a.checks }

-- the numbers are within their bounds, the names are UTF-8, and the words go together
pub record CheckFits (a : CheckAsked) : Type 0 where
  pub level : a.level ≤ 3
  pub some : 1 ≤ a.nodes
  pub most : a.nodes ≤ TREE_NODES
  pub form : a.form ≤ 5
  pub profile : IsUtf8 a.profile
  pub name : IsUtf8 a.name
  pub together : fits_check (order_of a) ≡ true

-- what the program's failure is here, where no file is opened: only a section's own policy is missing then
abbrev pub check_fault : Failure → Fault
check_fault File = OwnPolicy
check_fault failure = fault_at failure

-- why nothing is checked to the end: the words are wrong; or they are right, and the program's check, without policies
-- of sections, may fail so, or memory ran out
abbrev pub MayFailCheck : CheckAsked → Fault → Type 0
MayFailCheck a fault =
    ((fault ≡ Misfit) × (CheckFits a → ⊥))
    ⊎ (CheckFits a × (failure : Failure) × MayFail (order_of a) a.policy [] (source_in a ∷ []) failure
    × (fault ≡ check_fault failure))
    ⊎ (CheckFits a × (fault ≡ NoMemory))

-- the program's report and its status; if a line is wrong, words for people
abbrev pub IsCheckTold : CheckAsked → (status : ℕ) → (text : List ℕ) → Type 0
IsCheckTold a status text =
    CheckFits a × (end : Checked) × (report : List ℕ) × IsCheck (order_of a) a.policy [] (source_in a ∷ []) end report
    × (status ≡ status_by (conclusion.Checked end)) × (end ≢ BadLine → text ≡ report)

abbrev pub CheckAnswers : CheckAsked → (status : ℕ) → (text : List ℕ) → Type 0
CheckAnswers a status text =
    IsCheckTold a status text ⊎ ((fault : Fault) × MayFailCheck a fault × (status ≡ status_of fault))
